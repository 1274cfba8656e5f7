use Rattle.std.proofs.Common.{◌≡◌, [], map, refl, string_bytes, subst, true}
use Rattle.clap.specs.Words.{App, HasKind, HasMatchesOf, fault_of, is_simple_and_free}
use Rattle.program_words.proofs.Lines.{refused}
use Rattle.program_words.proofs.reading.matches_of.Goals as goal

pub returns-in-Err : goal.returns-in-Err
returns-in-Err c =
    let words = map string_bytes c.args.words.now in
    let faults = subst (λ (a : App). is_simple_and_free a ≡ true → HasKind (fault_of a words) c.in-Err.error)
    c.in_ok-parser.ensures.is_app c.in-Err.ensures.kinds in
    record { matches = tt; refused = refused words c.in-Err.error c.fault_of-fault.result (faults refl) c.fault_of-fault.ensures }

pub returns-in-Ok : goal.returns-in-Ok
returns-in-Ok c =
    let words = map string_bytes c.args.words.now in
    let app = c.in_ok-parser.ensures.is_app in
    let lawful = subst (λ (a : App). is_simple_and_free a ≡ true → fault_of a words ≡ []) app c.in-Ok.ensures.kinds in
    record {
      matches = record {
        lawful = lawful refl;
        matched = subst (λ (a : App). HasMatchesOf a words c.in-Ok.matches) app c.in-Ok.ensures.matches;
      };
      refused = tt;
    }
