use Rattle.std.proofs.Common.{◌≡◌, ◌∙◌, ℕ, List, [], ◌∷◌, ◌++◌, Result, Ok, Err, OnOk, is_ok, if◌then◌else◌}
use Rattle.std.proofs.Common.{append_assoc, string_bytes}
use Rattle.mirror_model.specs.Texts.{flag_text, point_text}
use Rattle.tlog_mirror.proofs.report_texts.push_head.Goals as goal
use Rattle.tlog_mirror.proofs.report_texts.push_head.Goals.{then-head, else-head}

-- three texts were added, in order; the last one has two parts
three_added : {T E : Type 0} (r : Result T E) (old f s g l both one two new : List ℕ) → both ≡ g ++ l →
    one ≡ old ++ f → two ≡ one ++ s → new ≡ (if is_ok r then two ++ both else two) →
    OnOk r (new ≡ old ++ (f ++ ((s ++ g) ++ l)))
three_added (Ok u) old f s g l both one two new is a b n = n ∙ rw (is, b, a) (simp append_assoc)
three_added (Err x) old f s g l both one two new is a b n = tt

pub returns : goal.returns
returns c =
    let flag : c.if-head.push_str.now ≡ (32 ∷ flag_text c.args.head.now.complete) ++ 10 ∷ [] =
    elim c.if-head.branch [
      | then-head w ↦ rw (w.if-head.true, w.push_str-is)
      | else-head w ↦ rw (w.if-head.false, w.push_str-is)
    ] in
    three_added c.push_str-2.result (string_bytes c.args.text.now) _
    (point_text c.args.head.now.size c.args.head.now.root) (32 ∷ flag_text c.args.head.now.complete) (10 ∷ [])
    c.if-head.push_str.now (string_bytes c.push_str.new.self) (string_bytes c.push_point.new.text)
    (string_bytes c.push_str-2.new.self) flag c.in_ok-push_str.ensures.bytes c.in_ok-push_point.ensures
    c.push_str-2.ensures.bytes
