use Rattle.std.proofs.Common.{◌∷◌, subst}
use Rattle.node_store.specs.Strings.{Strings, Has}
use Rattle.mirror_files.specs.Stands.{parts_of}
use Rattle.mirror_files.proofs.Loaded.{listed_short}
use Rattle.mirror_files.proofs.loading.mirror_of.Goals as goal

pub of_strings-requires : goal.of_strings-requires
of_strings-requires g c = record {
  short = λ entry held. listed_short (parts_of c.args.lists.now) c.requires entry
      (subst (λ (s : Strings). Has s (0 ∷ entry)) c.in_ok-strings.ensures.0 held);
}
