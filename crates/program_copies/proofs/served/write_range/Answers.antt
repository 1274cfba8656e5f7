use Rattle.std.proofs.Common.{arith, inr, ℕ, ◌≤◌, List, ◌∷◌, length, sym, subst}
use Rattle.node_store.specs.Strings.{Strings, Has}
use Rattle.program_copies.proofs.ServedSteps.{short_list}
use Rattle.program_copies.proofs.served.write_range.Goals as goal

pub write_served-requires-clause-short : goal.write_served-requires-clause-short
write_served-requires-clause-short g c = λ entries tree.
    let top = c.in-Some.top in
    short_list g.H.TreeHash.digest top.strings
    (subst (λ (s : Strings). (entry : List ℕ) → Has s (0 ∷ entry) → length entry ≤ 65535)
    (sym c.in-Some.ensures.some.strings_are) c.strings-held.ensures.sound.lawful.leaves_short)
    top.size top.root entries tree

pub returns-in-Ok : goal.returns-in-Ok
returns-in-Ok g c =
    let is = c.in-Some.ensures.some in
    let top = c.in-Some.top in
    let entries = is.served.entries in
    let tree = rw (← is.strings_are) at is.served.served.tree in
    let long = c.size-size.ensures entries tree in
    record {
      entries = entries;
      served = record { note = top.note; size = top.size; root = top.root; served = is.served.served };
      rises = omega (arith, c.if-range.false);
      within = omega (arith, long, c.if-range-size.false);
      written = c.in-Ok.ensures.ok entries tree;
    }

pub returns-in-Err-WriteFault : goal.returns-in-Err-WriteFault
returns-in-Err-WriteFault g c =
    let is = c.in-Some.ensures.some in
    let top = c.in-Some.top in
    let entries = is.served.entries in
    let tree = rw (← is.strings_are) at is.served.served.tree in
    let long = c.size-size.ensures entries tree in
    record {
      entries = entries;
      served = record { note = top.note; size = top.size; root = top.root; served = is.served.served };
      rises = omega (arith, c.if-range.false);
      within = omega (arith, long, c.if-range-size.false);
      written = c.in-Err-WriteFault.ensures.err entries tree;
    }

pub returns : goal.returns
returns g c =
    let is = c.in-Some.ensures.some in
    let top = c.in-Some.top in
    let entries = is.served.entries in
    let tree = rw (← is.strings_are) at is.served.served.tree in
    let long = c.size-size.ensures entries tree in
    inr (record {
      entries = entries;
      served = record { note = top.note; size = top.size; root = top.root; served = is.served.served };
      rises = omega (arith, c.if-range.false);
      within = omega (arith, long, c.if-range-size.false);
      written = c.in-Err-OutOfMemory.ensures.err entries tree;
    })
