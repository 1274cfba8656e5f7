use Rattle.std.proofs.Common.{◌≡◌, ◌++◌, List, ℕ, ap, sym, ◌∙◌}
use Rattle.std.proofs.lemmas.Bool.{false≢true}
use Rattle.std.proofs.lemmas.Bool.Decides.{Decides-eqb}
use Rattle.std.proofs.lemmas.Slice.Eq.{strip_prefix_is}
use Rattle.copy_reader.proofs.RowTexts.{text_more, text_other}
use Rattle.copy_reader.proofs.audit_bundle.is_text_of.Goals as goal

pub returns-in-None : goal.returns-in-None
returns-in-None c =
    let rest = c.loop-hash.rest.now in
    let hash = c.as_slice.result.now in
    let none = rw c.in-None.is at (strip_prefix_is Decides-eqb rest hash c.strip_prefix.result c.strip_prefix.ensures.cases) in (
      λ t. absurd (false≢true t),
      λ is. absurd (text_other c.args.row.now c.loop-hash.hash-index c.loop-hash-test.true c.args.bytes.now rest
          c.loop-hash.invariant (λ after begins. none after (begins ∙ ap (λ (h : List ℕ). h ++ after) (sym c.as_slice.ensures))) is),
    )

pub loop-hash-preserved : goal.loop-hash-preserved
loop-hash-preserved c =
    let rest = c.loop-hash.rest.now in
    let hash = c.as_slice.result.now in
    let after = c.in-Some.after.now in
    let begins : rest ≡ hash ++ after =
    rw c.in-Some.is at (strip_prefix_is Decides-eqb rest hash c.strip_prefix.result c.strip_prefix.ensures.cases) in
    text_more c.args.row.now c.loop-hash.hash-index c.loop-hash-test.true c.args.bytes.now rest c.loop-hash.invariant after
    (begins ∙ ap (λ (h : List ℕ). h ++ after) c.as_slice.ensures)
