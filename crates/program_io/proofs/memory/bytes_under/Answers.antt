use Rattle.std.proofs.Common.{Some, sym, ap, ◌∙◌}
use Rattle.std.specs.Prelude.{option_map, string_bytes}
use Rattle.program_io.proofs.NamedLemmas.{found_named, found_other}
use Rattle.program_io.proofs.memory.bytes_under.Goals as goal
use Rattle.program_io.proofs.memory.bytes_under.Goals.{then-is_named, else-is_named}

pub loop-put-preserved : goal.loop-put-preserved
loop-put-preserved c =
    elim c.if-is_named.branch [
      | then-is_named w ↦ found_named
          (λ put. (
            string_bytes put.0,
            put.1.items,
          )) c.args.puts.now c.loop-put.put-index c.put-item.result c.args.name.now c.loop-put-test.true c.put-item.is
          (option_map (λ bytes. bytes.now) c.if-is_named.found) (sym c.is_named.ensures ∙ w.if-is_named.true)
          (ap (option_map (λ bytes. bytes.now)) w.found-is ∙ ap Some w.as_slice.ensures.value)
      | else-is_named w ↦ found_other
          (λ put. (
            string_bytes put.0,
            put.1.items,
          )) c.args.puts.now c.loop-put.put-index c.put-item.result c.args.name.now c.loop-put-test.true c.put-item.is
          (option_map (λ bytes. bytes.now) c.if-is_named.found) (sym c.is_named.ensures ∙ w.if-is_named.false)
          (ap (option_map (λ bytes. bytes.now)) w.found-is ∙ c.loop-put.invariant)
    ]
