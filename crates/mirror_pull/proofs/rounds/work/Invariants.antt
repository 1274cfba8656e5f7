use Rattle.std.proofs.Common.{◌≡◌, ℕ, List}
use Rattle.mirror_model.specs.Heads.{HasHead}
use Rattle.mirror_pull.specs.Replying.{Gathers}
use Rattle.mirror_pull.proofs.Replies.{AreRoundsSoFar}
use Rattle.mirror_pull.specs.Parts.{MayWork}
use Rattle.mirror_pull.proofs.TrueWork.{IsWorking}
use Rattle.mirror_pull.specs.Asking.{AddsTo}
use Rattle.mirror_sources.specs.Source.{StaysWithin}
use Rattle.mirror_pull.specs.Taking.{GainsStrings}
use Rattle.mirror_pull.proofs.rounds.work.Given as goal

abbrev pub invariant-loop-rounds : goal.invariant-loop-rounds
invariant-loop-rounds g l = record {
  recorded : AddsTo l.fn.asked.items l.asked.items (g.S.Source.asked l.fn.source) (g.S.Source.asked l.source);
  counted : g.S.Source.failed l.source ≡ g.S.Source.failed l.fn.source;
  later : StaysWithin (g.S.Source.may_answer l.fn.source) (g.S.Source.may_answer l.source);
  replied :
      HasHead l.fn.mirror.view l.fn.size l.fn.root →
      Gathers (g.S.Source.may_answer l.fn.source) (g.S.Source.asked l.fn.source) (g.S.Source.asked l.source)
      l.fn.asked.items l.asked.items
      (λ xs. AreRoundsSoFar g.H.TreeHash.digest l.fn.size l.fn.root l.fn.asked.items l.fn.mirror.view l.rounds l.refused
      l.mirror.view xs);
  honest :
      (entries : List (List ℕ)) →
      MayWork g.H.TreeHash.digest entries l.fn.size l.fn.root
      (g.S.Source.may_answer l.fn.source) l.fn.mirror.view l.fn.asked.items →
      (l.refused ≡ 0)
      × IsWorking g.H.TreeHash.digest entries l.fn.size l.fn.root
      (g.S.Source.may_answer l.fn.source) (g.S.Source.may_answer l.source) l.rounds l.fn.mirror.view l.mirror.view l.fn.asked.items l.asked.items;
  gains : GainsStrings l.fn.mirror.view l.mirror.view;
}
