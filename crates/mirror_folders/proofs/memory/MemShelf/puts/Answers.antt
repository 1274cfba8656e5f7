use Rattle.std.proofs.Common.{◌∙◌, ap, map}
use Rattle.mirror_folders.specs.Flushes.{InMemory}
use Rattle.mirror_folders.proofs.memory.MemShelf.puts.Goals as goal

pub returns : goal.returns
returns c = ap (map (λ put. (put.0, put.1.items))) c.as_slice.ensures.value ∙ ap (λ (s : InMemory). s.puts) c.self.view_is
