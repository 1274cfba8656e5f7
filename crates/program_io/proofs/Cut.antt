-- An entry bundle in the first bytes of an input.
use Rattle.std.proofs.Common.{◌≡◌, ℕ, ◌+◌, ◌*◌, ◌-◌, ◌^◌, ◌<◌, ◌≤◌, List, [], ◌∷◌, ◌++◌, length, take, drop, All}
use Rattle.std.proofs.Common.{Option, Some, None, Ok, Err, sym, ap, subst, ◌∙◌, append_assoc, arith}
use Rattle.std.specs.Prelude.{IfSome}
use Rattle.std.specs.List.{flat_map}
use Rattle.std.specs.Int.{w16, to_be_bytes}
use Rattle.std.proofs.lemmas.List.{take_all, take-append-drop, length-append, length-take}
use Rattle.std.proofs.lemmas.List.Elements.{All-head, All-tail}
use Rattle.std.proofs.Math.Seq.{take-append-add}
use Rattle.tlog_tiles.specs.Bundle.{entry_text, IsBundle, HasBundle, ReadsBundle}
use Rattle.tlog_tiles.specs.declared.bundle.BundleFault.{BundleFault}
use Rattle.tlog_tiles.specs.declared.bundle.BundleFault.TheVariants as bundle
use Rattle.tlog_hash.specs.Tree.{mth}
use Rattle.program_io.specs.declared.root.TheConstants.{MAX_READ_LEN}
use Rattle.program_io.specs.StreamFaults.{root_of_bundle}
use Rattle.program_io.specs.Root.{MakesRoot, root_text}

entries_length : (es : List (List ℕ)) → All (λ e. length e < 2 ^ 16) es →
    length (flat_map entry_text es) ≤ length es * 65537
entries_length [] h = omega arith
entries_length (e ∷ es) h =
    let first = All-head (λ x. length x < 2 ^ 16) e es h in
    let others = entries_length es (All-tail (λ x. length x < 2 ^ 16) e es h) in
    let whole : length (flat_map entry_text (e ∷ es)) ≡ length (entry_text e) + length (flat_map entry_text es) =
    length-append (entry_text e) (flat_map entry_text es) in
    let front : length (entry_text e) ≡ 2 + length e = length-append (to_be_bytes w16 (length e)) e in
    omega (arith, first, others, whole, front)

-- a bundle of at most 256 entries is shorter than the limit
pub IsBundle-length : (width : ℕ) (bytes : List ℕ) (es : List (List ℕ)) → width ≤ 256 → IsBundle width bytes es →
    length bytes < MAX_READ_LEN
IsBundle-length width bytes es le b =
    let h = entries_length es b.fits in
    let e = ap length b.text in
    omega (arith, h, e, b.count, le)

-- a prefix of the input that is not longer than the part that was read is a prefix of this part
front_of_part : (input front rest : List ℕ) (n : ℕ) → length front ≤ n → input ≡ front ++ rest →
    (others : List ℕ) × (take n input ≡ front ++ others)
front_of_part input front rest n le e =
    let k : n ≡ length front + (n - length front) = omega arith in (
      take (n - length front) rest,
      ap (λ i. take i input) k ∙
          (ap (λ (x : List ℕ). take (length front + (n - length front)) x) e ∙ take-append-add front rest (n - length front)),
    )

pub short_of_part : (width : ℕ) (input rest : List ℕ) → width ≤ 256 → HasBundle width input rest →
    (others : List ℕ) × HasBundle width (take MAX_READ_LEN input) others
short_of_part width input rest le h =
    let long = IsBundle-length width h.front h.entries le h.is_bundle in
    let part = front_of_part input h.front rest MAX_READ_LEN (omega (arith, long)) h.parts in
    (part.0, record { front = h.front; entries = h.entries; parts = part.1; is_bundle = h.is_bundle })

made_fault_of : (digest : List ℕ → List ℕ) (width : ℕ) (input : List ℕ) (f : BundleFault) → width ≤ 256 →
    ReadsBundle width (take MAX_READ_LEN input) (Err f) → MakesRoot digest width input (Err (root_of_bundle f))
made_fault_of digest width input bundle.BundleShort le h = λ rest b. let part = short_of_part width input rest le b in
    h part.0 part.1
made_fault_of digest width input bundle.BundleLong le h =
    let b = h.2 in (
      h.0,
      h.1 ++ drop MAX_READ_LEN input,
      record {
        front = b.front;
        entries = b.entries;
        parts = sym (take-append-drop MAX_READ_LEN input) ∙
            (ap (λ (x : List ℕ). x ++ drop MAX_READ_LEN input) b.parts ∙
            append_assoc b.front (h.0 ∷ h.1) (drop MAX_READ_LEN input));
        is_bundle = b.is_bundle;
      },
    )
made_fault_of digest width input bundle.OutOfMemory le h = tt

pub made_fault : (digest : List ℕ → List ℕ) (width : ℕ) (known : Option (List ℕ)) (bytes : List ℕ) (f : BundleFault) →
    width ≤ 256 → IfSome known (λ xs. bytes ≡ take MAX_READ_LEN xs) → ReadsBundle width bytes (Err f)
    → IfSome known (λ input. MakesRoot digest width input (Err (root_of_bundle f)))
made_fault digest width None bytes f le e h = tt
made_fault digest width (Some input) bytes f le e h =
    made_fault_of digest width input f le (subst (λ (b : List ℕ). ReadsBundle width b (Err f)) e h)

pub made_text : (digest : List ℕ → List ℕ) (width : ℕ) (known : Option (List ℕ)) (bytes text : List ℕ)
    (es : List (List ℕ)) → width ≤ 256 → IfSome known (λ xs. bytes ≡ take MAX_READ_LEN xs) → IsBundle width bytes es →
    text ≡ root_text width (mth digest es)
    → IfSome known (λ input. MakesRoot digest width input (Ok text))
made_text digest width None bytes text es le e b t = tt
made_text digest width (Some input) bytes text es le e b t =
    let short = IsBundle-length width bytes es le b in
    let len = ap length e ∙ length-take MAX_READ_LEN input in
    let all : bytes ≡ input = e ∙ take_all MAX_READ_LEN input (omega (arith, short, len)) in
    record { entries = es; is_bundle = subst (λ (x : List ℕ). IsBundle width x es) all b; text_is = t }
