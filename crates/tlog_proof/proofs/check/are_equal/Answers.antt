use Rattle.std.proofs.Common.{length, sym}
use Rattle.std.proofs.lemmas.List.{nil_from_length}
use Rattle.std.proofs.lemmas.Bool.{eqb-true}
use Rattle.std.proofs.lemmas.Bool.Decides.{Decides-eqb}
use Rattle.std.proofs.lemmas.Slice.Eq.{slice_eq-Decides}
use Rattle.tlog_proof.proofs.check.are_equal.Goals as goal

pub returns : goal.returns
returns c =
    let same = slice_eq-Decides Decides-eqb c.args.first_root.now c.args.second_root.now c.eq.result c.eq.ensures in (
      λ h. (
        nil_from_length c.args.path.now (eqb-true (length c.args.path.now) 0 (sym c.if-not-is_empty.ensures)),
        same.0 h,
      ),
      λ h. same.1 h.1,
    )
