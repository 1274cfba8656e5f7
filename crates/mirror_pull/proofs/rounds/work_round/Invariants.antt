use Rattle.std.proofs.Common.{◌≡◌, ℕ, List, take}
use Rattle.mirror_pull.specs.Replying.{Gathers, IsWorkedList}
use Rattle.mirror_pull.specs.Parts.{MayTake, TakesTrue}
use Rattle.mirror_pull.specs.Asking.{AddsTo}
use Rattle.mirror_sources.specs.Source.{StaysWithin}
use Rattle.mirror_pull.specs.Taking.{GainsStrings}
use Rattle.mirror_pull.proofs.rounds.work_round.Given as goal

abbrev pub invariant-loop-path : goal.invariant-loop-path
invariant-loop-path g l = record {
  recorded : AddsTo l.fn.asked.items l.asked.items (g.S.Source.asked l.fn.source) (g.S.Source.asked l.source);
  counted : g.S.Source.failed l.source ≡ g.S.Source.failed l.fn.source;
  later : StaysWithin (g.S.Source.may_answer l.fn.source) (g.S.Source.may_answer l.source);
  replied :
      Gathers (g.S.Source.may_answer l.fn.source) (g.S.Source.asked l.fn.source) (g.S.Source.asked l.source)
      l.fn.asked.items l.asked.items
      (λ xs. IsWorkedList g.H.TreeHash.digest l.fn.asked.items l.fn.mirror.view (take l.path-index l.paths) l.refused
      l.mirror.view xs);
  honest :
      (entries : List (List ℕ)) (size : ℕ) →
      MayTake g.H.TreeHash.digest entries size
      (g.S.Source.may_answer l.fn.source) l.fn.mirror.view l.fn.asked.items l.paths →
      (l.refused ≡ 0)
      × TakesTrue g.H.TreeHash.digest entries (g.S.Source.may_answer l.fn.source)
      (take l.path-index l.paths) l.fn.asked.items l.asked.items l.fn.mirror.view l.mirror.view;
  gains : GainsStrings l.fn.mirror.view l.mirror.view;
}
