use Rattle.std.proofs.Common.{◌≡◌, ◌∙◌, List, None, Option, Some, codes, refl, subst, sym, ℕ}
use Rattle.clap.specs.Words.{Row, Text, first_of, found_of, rows_of}
use Rattle.tlog_shape.specs.declared.TheConstants.{MAX_SIZE}
use Rattle.tlog_proof.specs.declared.proof.Ask.{Ask}
use Rattle.tlog_proof.specs.declared.proof.Ask.TheVariants as ask
use Rattle.program_words.specs.Spelling.{IsNumberIn}
use Rattle.program_words.specs.Commands.{Given, HasNumber, HasValue, IsAskGiven, IsNumberGiven}
use Rattle.program_words.specs.Readings.{proof_name}
use Rattle.program_words.specs.declared.commands.prove.ProofKind.{ProofKind}
use Rattle.program_words.specs.declared.commands.prove.ProofKind.TheVariants.{Inclusion, Consistency}
use Rattle.program_words.proofs.commands.prove.ask_of.Goals as goal

-- a number of an option is spelled by its value
value_in : (options : List Row) (name : Text) (n : ℕ) (o : Option Text) → first_of name options ≡ o →
    IsNumberGiven 0 MAX_SIZE o n → HasValue options name (λ word. IsNumberIn 0 MAX_SIZE n word)
value_in options name n None e is = absurd is
value_in options name n (Some word) e is = record { value = word; given = e; is_such = is }

number_in : (options : List Row) (name word : Text) (n : ℕ) → Given options name word → IsNumberIn 0 MAX_SIZE n word →
    HasNumber options name 0 MAX_SIZE n
number_in options name word n given is = subst (λ o. IsNumberGiven 0 MAX_SIZE o n) (sym given) is

-- the kind of the proof, and its two numbers
asked_of : (options : List Row) (a : Ask) → IsAskGiven options a →
    (kind : ProofKind) × Given options (codes "kind") (proof_name kind) × (m : ℕ) × HasNumber options (codes "a") 0 MAX_SIZE m
    × (n : ℕ) × HasNumber options (codes "b") 0 MAX_SIZE n
asked_of options (ask.Inclusion size index) is =
    let a = is.is_such in let b = a.is_such in let s = b.is_such in (
      Inclusion,
      subst (λ k. Given options (codes "kind") k) s.0 is.given,
      size,
      number_in options (codes "a") a.value size a.given s.1,
      index,
      number_in options (codes "b") b.value index b.given s.2,
    )
asked_of options (ask.Consistency first second) is =
    let a = is.is_such in let b = a.is_such in let s = b.is_such in (
      Consistency,
      subst (λ k. Given options (codes "kind") k) s.0 is.given,
      first,
      number_in options (codes "a") a.value first a.given s.1,
      second,
      number_in options (codes "b") b.value second b.given s.2,
    )

pub returns-in-Inclusion : goal.returns-in-Inclusion
returns-in-Inclusion c =
    let options = rows_of (found_of c.args.found.now) in record {
      good = λ g.
          let s2 = c.size_of-b.ensures.good g in
          let s1 = c.size_of-a.ensures.good s2.0 in
          let s0 = c.kind_given-kind.ensures.good s1.0 in
          let kind = subst (λ k. Given options (codes "kind") (proof_name k)) c.in-Inclusion.is s0.1 in
          let a = value_in options (codes "a") c.size_of-a.result (first_of (codes "a") options) refl s1.1 in
          let b = value_in options (codes "b") c.size_of-b.result (first_of (codes "b") options) refl s2.1 in (
            s0.0,
            record {
              value = codes "inclusion";
              given = kind;
              is_such = record {
                value = a.value;
                given = a.given;
                is_such = record { value = b.value; given = b.given; is_such = (refl, a.is_such, b.is_such) };
              };
            },
          );
      bad = λ ask is.
          let m = asked_of options ask is in
          c.size_of-b.ensures.bad m.4 m.5 ∙ (c.size_of-a.ensures.bad m.2 m.3 ∙ c.kind_given-kind.ensures.bad m.0 m.1);
    }

pub returns-in-Consistency : goal.returns-in-Consistency
returns-in-Consistency c =
    let options = rows_of (found_of c.args.found.now) in record {
      good = λ g.
          let s2 = c.size_of-b.ensures.good g in
          let s1 = c.size_of-a.ensures.good s2.0 in
          let s0 = c.kind_given-kind.ensures.good s1.0 in
          let kind = subst (λ k. Given options (codes "kind") (proof_name k)) c.in-Consistency.is s0.1 in
          let a = value_in options (codes "a") c.size_of-a.result (first_of (codes "a") options) refl s1.1 in
          let b = value_in options (codes "b") c.size_of-b.result (first_of (codes "b") options) refl s2.1 in (
            s0.0,
            record {
              value = codes "consistency";
              given = kind;
              is_such = record {
                value = a.value;
                given = a.given;
                is_such = record { value = b.value; given = b.given; is_such = (refl, a.is_such, b.is_such) };
              };
            },
          );
      bad = λ ask is.
          let m = asked_of options ask is in
          c.size_of-b.ensures.bad m.4 m.5 ∙ (c.size_of-a.ensures.bad m.2 m.3 ∙ c.kind_given-kind.ensures.bad m.0 m.1);
    }
