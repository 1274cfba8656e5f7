use Rattle.std.proofs.Common.{◌≡◌, sym, ◌∙◌, string_bytes}
use Rattle.std.specs.Cmp.Derive.Mapped.{pointwise-map}
use Rattle.std.specs.Cmp.Lexicographic.{pointwise}
use Rattle.std.specs.Str.{bytes_eq}
use Rattle.std.proofs.lemmas.Slice.Eq.{bytes_eq-Decides, slice_eq-Decides}
use Rattle.tlog_checkpoint.proofs.text.LinesPartialEq.eq.Goals as goal

pub returns-clause-bytes : goal.returns-clause-bytes
returns-clause-bytes c =
    rw (← c.self.view_is, ← c.other.view_is)
    (c.eq.ensures ∙ sym (pointwise-map string_bytes bytes_eq c.self.inside.lines.items c.other.inside.lines.items))

pub returns-clause-same : goal.returns-clause-same
returns-clause-same c =
    let bytes : c.eq.result ≡ pointwise bytes_eq c.args.self.now c.args.other.now = returns-clause-bytes c in
    slice_eq-Decides bytes_eq-Decides c.args.self.now c.args.other.now c.eq.result bytes
