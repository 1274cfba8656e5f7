use Rattle.std.proofs.Common.{map, sym, ◌∙◌}
use Rattle.program_io.specs.Performing.{done, failed}
use Rattle.state_commands.proofs.Built.{built}
use Rattle.state_commands.proofs.build.build_into.Goals as goal

pub returns-in-Ok-build_log : goal.returns-in-Ok-build_log
returns-in-Ok-build_log g c =
    rw c.report_end.ensures.puts (built _ _ _ _ _ _ _ (g.D.Shelf.puts c.report_puts.new.folders) c.in-Some.key
    (map (λ e. e.items) c.in-Ok-read_entries.entries.items) done record {
      lines = c.in-Ok.lines.items;
      are_lines = c.in-Ok.ensures;
      first_is = sym c.in-Some.is ∙ c.signing_key.ensures;
    } c.in-Ok-check_origin.ensures.lawful (c.report_puts.ensures.puts ∙ c.in-Ok-open.ensures.opened) c.in-Ok-build_log.ensures.builds (g.I.Read.remaining c.args.input.now)
    c.in-Ok-read_entries.ensures.answer)

pub returns-in-Err-build_log : goal.returns-in-Err-build_log
returns-in-Err-build_log g c =
    rw c.not_built.ensures (built _ _ _ _ _ _ _ (g.D.Shelf.puts c.report_puts.new.folders) c.in-Some.key
    (map (λ e. e.items) c.in-Ok-read_entries.entries.items) (failed c.in-Err-build_log.fault) record {
      lines = c.in-Ok.lines.items;
      are_lines = c.in-Ok.ensures;
      first_is = sym c.in-Some.is ∙ c.signing_key.ensures;
    } c.in-Ok-check_origin.ensures.lawful (c.report_puts.ensures.puts ∙ c.in-Ok-open.ensures.opened) c.in-Err-build_log.ensures.builds (g.I.Read.remaining c.args.input.now)
    c.in-Ok-read_entries.ensures.answer)
