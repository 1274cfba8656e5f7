use Rattle.std.proofs.Common.{◌≡◌, ◌+◌, ◌-◌, ◌*◌, ◌/◌, ◌%◌, min, sym, subst, arith}
use Rattle.byte_streams.specs.Streams.{AppendsPrefix}
use Rattle.tlog_hash.specs.Rows.{part}
use Rattle.tlog_tiles.specs.Bundle.{IsBundle}
use Rattle.program_copies.specs.Texts.{entries_text}
use Rattle.program_copies.proofs.Cuts.{err_any}
use Rattle.program_copies.proofs.writing.write_from.Goals as goal

pub returns-in_err-write_cut-clause-err : goal.returns-in_err-write_cut-clause-err
returns-in_err-write_cut-clause-err g c =
    let at = c.args.at in
    let start = at / 256 * 256 in
    let end = c.min-end.result in
    let a = g.W.Write.contents c.args.output.now in
    let b = g.W.Write.contents c.write_cut.new.output in
    let base64 = c.args.range.now.base64 in
    let e : end ≡ min (c.args.range.now.to - start) 256 = omega arith in
    let skip : at - start ≡ at % 256 = omega arith in
    let count : end - (at - start) ≡ start + end - at = omega (arith, e) in
    err_any c.from_residual.result _ (λ entries is. (
      start + end,
      record { rises = omega (arith, e); within = omega (arith, e); same = omega (arith, e) },
      subst (λ s. AppendsPrefix a b (entries_text base64 (part s (start + end - at) entries))) skip
          (subst (λ n. AppendsPrefix a b (entries_text base64 (part (at - start) n entries))) count
          (c.in_err-write_cut.ensures.err entries
          (subst (λ w. IsBundle w c.args.bytes.now entries) (sym c.width_at.ensures.width) is))),
    ))
