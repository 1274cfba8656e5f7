-- The lines contain only printed characters.
use Rattle.std.proofs.Common.{◌≡◌, ℕ, ◌+◌, ◌/◌, ◌%◌, ◌<◌, List, [], ◌∷◌, ◌++◌, length, take, Bool, true, false}
use Rattle.std.proofs.Common.{Option, Some, None, refl, arith, length-take, suc, zero}
use Rattle.std.specs.Prelude.{◌&&◌, codes, nat_lt, ◌==◌, if◌then◌else◌}
use Rattle.std.specs.Fmt.{decimal, digits, digits_onto, digit_glyph}
use Rattle.std.proofs.lemmas.Bool.{lt-ltb}
use Rattle.program_io.specs.declared.counts.Counts.{Counts}
use Rattle.program_io.specs.declared.task.Task.{Task}
use Rattle.program_io.specs.declared.task.Task.TheVariants.{Build, Pull, Export, Follow, Repair, Audit}
use Rattle.program_io.specs.ProgressText.{comma_before, with_commas, count_text, files_text, size_text, task_text}
use Rattle.program_io.specs.ProgressText.{counts_text, bytes_text, share_text, progress_text, older_text, grown_text, pulled_text, waited_text, line_of}
use Rattle.program_io.specs.ProgressText.{is_printed, are_printed, IsLine}

both : (a b : Bool) → a ≡ true → b ≡ true → (a && b) ≡ true
both true true p q = refl
both true false p q = q
both false b p q = p

first_of : (a b : Bool) → (a && b) ≡ true → a ≡ true
first_of true b p = refl
first_of false b p = p

second_of : (a b : Bool) → (a && b) ≡ true → b ≡ true
second_of true b p = p
second_of false true p = refl
second_of false false p = p

pub printed-append : (xs ys : List ℕ) → are_printed xs ≡ true → are_printed ys ≡ true → are_printed (xs ++ ys) ≡ true
printed-append [] ys p q = q
printed-append (x ∷ xs) ys p q =
    both (is_printed x) (are_printed (xs ++ ys)) (first_of (is_printed x) (are_printed xs) p)
    (printed-append xs ys (second_of (is_printed x) (are_printed xs) p) q)

printed-take : (n : ℕ) (xs : List ℕ) → are_printed xs ≡ true → are_printed (take n xs) ≡ true
printed-take zero xs p = refl
printed-take (suc n) [] p = refl
printed-take (suc n) (x ∷ xs) p =
    both (is_printed x) (are_printed (take n xs)) (first_of (is_printed x) (are_printed xs) p)
    (printed-take n xs (second_of (is_printed x) (are_printed xs) p))

-- ---- numbers

printed_choice : (b : Bool) (xs ys : List ℕ) → are_printed xs ≡ true → are_printed ys ≡ true →
    are_printed (if b then xs else ys) ≡ true
printed_choice true xs ys p q = p
printed_choice false xs ys p q = q

printed_comma : (left : ℕ) → are_printed (comma_before left) ≡ true
printed_comma left =
    elim (nat_lt 0 left && (left % 3 == 0))
    as (λ b. are_printed (if b then codes "," else []) ≡ true) [ true ↦ refl | false ↦ refl ]

printed_commas : (digits : List ℕ) → are_printed digits ≡ true → are_printed (with_commas digits) ≡ true
printed_commas [] p = refl
printed_commas (digit ∷ rest) p =
    both (is_printed digit) (are_printed (comma_before (length rest) ++ with_commas rest))
    (first_of (is_printed digit) (are_printed rest) p)
    (printed-append (comma_before (length rest)) (with_commas rest) (printed_comma (length rest))
    (printed_commas rest (second_of (is_printed digit) (are_printed rest) p)))

printed_glyph : (d : ℕ) → d < 10 → is_printed (digit_glyph false d) ≡ true
printed_glyph d small =
    let below : nat_lt d 10 ≡ true = lt-ltb d 10 small in
    let printed : is_printed (48 + d) ≡ true = grind arith in
    rw below printed

printed_onto : (k n : ℕ) (behind : List ℕ) → are_printed behind ≡ true →
    are_printed (digits_onto k 10 false n behind) ≡ true
printed_onto zero n behind p = p
printed_onto (suc k) n behind p =
    let small : n % 10 < 10 = omega arith in
    let more : are_printed (digit_glyph false (n % 10) ∷ behind) ≡ true =
    both (is_printed (digit_glyph false (n % 10))) (are_printed behind) (printed_glyph (n % 10) small) p
    in
    printed_choice (n / 10 == 0) (digit_glyph false (n % 10) ∷ behind)
    (digits_onto k 10 false (n / 10) (digit_glyph false (n % 10) ∷ behind)) more
    (printed_onto k (n / 10) (digit_glyph false (n % 10) ∷ behind) more)

printed_decimal : (n : ℕ) → are_printed (decimal n) ≡ true
unfolding digits
printed_decimal n = printed_onto 64 n [] refl

printed_count : (n : ℕ) → are_printed (count_text n) ≡ true
printed_count n = printed_commas (decimal n) (printed_decimal n)

-- ---- parts of a report

printed_amount : (n : ℕ) (unit : List ℕ) → are_printed unit ≡ true → are_printed (count_text n ++ unit) ≡ true
printed_amount n unit p = printed-append (count_text n) unit (printed_count n) p

printed_files : (n : ℕ) → are_printed (files_text n) ≡ true
printed_files n =
    printed_choice (n == 1) (codes "1 file") (count_text n ++ codes " files") refl
    (printed_amount n (codes " files") refl)

printed_size : (n : ℕ) → are_printed (size_text n) ≡ true
printed_size n =
    printed_choice (nat_lt n 1_000) _ _ (printed_amount n (codes " B") refl)
    (printed_choice (nat_lt n 1_000_000) _ _ (printed_amount (n / 1_000) (codes " kB") refl)
    (printed_choice (nat_lt n 1_000_000_000) _ _ (printed_amount (n / 1_000_000) (codes " MB") refl)
    (printed_choice (nat_lt n 1_000_000_000_000) _ _ (printed_amount (n / 1_000_000_000) (codes " GB") refl)
    (printed_amount (n / 1_000_000_000_000) (codes " TB") refl))))

printed_counts : (counts : Counts) → are_printed (counts_text counts) ≡ true
printed_counts counts =
    printed-append (files_text counts.files) (codes ", " ++ size_text counts.bytes) (printed_files counts.files)
    (printed-append (codes ", ") (size_text counts.bytes) refl (printed_size counts.bytes))

printed_task : (task : Task) → are_printed (task_text task) ≡ true
printed_task Build = refl
printed_task Pull = refl
printed_task Export = refl
printed_task Follow = refl
printed_task Repair = refl
printed_task Audit = refl

printed_behind : (bytes : ℕ) → are_printed (codes ", " ++ size_text bytes) ≡ true
printed_behind bytes = printed-append (codes ", ") (size_text bytes) refl (printed_size bytes)

printed_bytes : (task : Task) (bytes : ℕ) → are_printed (bytes_text task bytes) ≡ true
printed_bytes Build bytes = refl
printed_bytes Pull bytes = refl
printed_bytes Export bytes = refl
printed_bytes Follow bytes = printed_behind bytes
printed_bytes Repair bytes = printed_behind bytes
printed_bytes Audit bytes = printed_behind bytes

printed_share : (task : Task) (all : ℕ) (counts : Counts) → are_printed (share_text task all counts) ≡ true
printed_share task all counts =
    let last : List ℕ = files_text all ++ bytes_text task counts.bytes in
    printed_amount counts.files (codes " of " ++ last)
    (printed-append (codes " of ") last refl
    (printed-append (files_text all) (bytes_text task counts.bytes) (printed_files all)
    (printed_bytes task counts.bytes)))

pub printed_progress : (task : Task) (all : Option ℕ) (counts : Counts) →
    are_printed (progress_text task all counts) ≡ true
printed_progress task None counts =
    printed-append (task_text task) (counts_text counts) (printed_task task) (printed_counts counts)
printed_progress task (Some all) counts =
    printed-append (task_text task) (share_text task all counts) (printed_task task) (printed_share task all counts)

printed_older : (size held : ℕ) → are_printed (older_text size held) ≡ true
printed_older size held =
    let behind : List ℕ = codes " entries, older than one held of " ++ count_text held in
    printed-append (codes "pull: checkpoint of ") (count_text size ++ behind) refl
    (printed_amount size behind
    (printed-append (codes " entries, older than one held of ") (count_text held) refl (printed_count held)))

pub printed_grown : (task : Task) (held size : ℕ) (counts : Counts) →
    are_printed (grown_text task held size counts) ≡ true
printed_grown task held size counts =
    let last : List ℕ = codes " entries, " ++ counts_text counts in
    let behind : List ℕ = codes " to " ++ (count_text size ++ last) in
    printed-append (task_text task) (count_text held ++ behind) (printed_task task)
    (printed_amount held behind (printed-append (codes " to ") (count_text size ++ last) refl
    (printed_amount size last (printed-append (codes " entries, ") (counts_text counts) refl (printed_counts counts)))))

pub printed_pulled : (held size : ℕ) (counts : Counts) → are_printed (pulled_text held size counts) ≡ true
printed_pulled held size counts =
    printed_choice (nat_lt size held) (older_text size held) (grown_text Pull held size counts) (printed_older size held)
    (printed_grown Pull held size counts)

pub printed_waited : (task : Task) (seconds : ℕ) (place : List ℕ) → are_printed place ≡ true →
    are_printed (waited_text task seconds place) ≡ true
printed_waited task seconds place p =
    let behind : List ℕ = codes " s for " ++ place in
    printed-append (task_text task) (codes "waited " ++ (count_text seconds ++ behind)) (printed_task task)
    (printed-append (codes "waited ") (count_text seconds ++ behind) refl
    (printed_amount seconds behind (printed-append (codes " s for ") place refl p)))

-- ---- lines

-- the line of a printed text is a line
pub line_is : (text bytes : List ℕ) → are_printed text ≡ true → bytes ≡ line_of text → IsLine bytes
line_is text bytes p is = record {
  text = take 79 text;
  printed = printed-take 79 text p;
  within = omega (arith, length-take 79 text);
  bytes_are = is;
}
