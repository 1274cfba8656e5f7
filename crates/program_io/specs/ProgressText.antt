-- The lines that report the progress of long work.
use Rattle.std.specs.Prelude.{◌≡◌, ℕ, ◌+◌, ◌-◌, ◌/◌, ◌%◌, ◌^◌, ◌≤◌, ◌==◌, List, [], ◌∷◌, ◌++◌}
use Rattle.std.specs.Prelude.{length, take, min, codes, Option, Some, None, Bool, true, ◌&&◌, nat_lt, nat_le}
use Rattle.std.specs.Prelude.{if◌then◌else◌}
use Rattle.std.specs.Fmt.{decimal}
use Rattle.std.specs.List.{list_all}
use Rattle.program_io.specs.declared.counts.Counts.{Counts}
use Rattle.program_io.specs.declared.task.Task.{Task}
use Rattle.program_io.specs.declared.task.Task.TheVariants.{Build, Pull, Export, Follow, Repair, Audit}

-- ---- numbers

-- the text after a digit with left more digits: a comma, if these are one or more whole groups of
-- three
abbrev pub comma_before : ℕ → List ℕ
comma_before left = if nat_lt 0 left && (left % 3 == 0) then codes "," else []

-- digits in groups of three from the end, with commas between the groups
abbrev pub with_commas : List ℕ → List ℕ
with_commas [] = []
with_commas (digit ∷ rest) = digit ∷ (comma_before (length rest) ++ with_commas rest)

-- a number in decimal digits, in groups of three: `1,024`
abbrev pub count_text : ℕ → List ℕ
count_text n = with_commas (decimal n)

-- a number of files: `1 file`, `1,024 files`
abbrev pub files_text : ℕ → List ℕ
files_text n = if n == 1 then codes "1 file" else count_text n ++ codes " files"

-- a number of bytes in the largest decimal unit that gives at least 1, rounded down: `999 B`,
-- `91 kB`
abbrev pub size_text : ℕ → List ℕ
size_text n =
    if nat_lt n 1_000 then count_text n ++ codes " B"
    else if nat_lt n 1_000_000 then count_text (n / 1_000) ++ codes " kB"
    else if nat_lt n 1_000_000_000 then count_text (n / 1_000_000) ++ codes " MB"
    else if nat_lt n 1_000_000_000_000 then count_text (n / 1_000_000_000) ++ codes " GB"
    else count_text (n / 1_000_000_000_000) ++ codes " TB"

-- ---- parts of a report

-- the name of a command, and a colon
abbrev pub task_text : Task → List ℕ
task_text Build = codes "build: "
task_text Pull = codes "pull: "
task_text Export = codes "export: "
task_text Follow = codes "follow: "
task_text Repair = codes "repair: "
task_text Audit = codes "audit: "

-- the number of files, and their bytes
abbrev pub counts_text : Counts → List ℕ
counts_text counts = files_text counts.files ++ (codes ", " ++ size_text counts.bytes)

-- the bytes of the files, if the number of all files is known; only three commands report them
abbrev pub bytes_text : Task → ℕ → List ℕ
bytes_text Build bytes = []
bytes_text Pull bytes = []
bytes_text Export bytes = []
bytes_text Follow bytes = codes ", " ++ size_text bytes
bytes_text Repair bytes = codes ", " ++ size_text bytes
bytes_text Audit bytes = codes ", " ++ size_text bytes

-- the number of files done, and of all files
abbrev pub share_text : Task → ℕ → Counts → List ℕ
share_text task all counts =
    count_text counts.files ++ (codes " of " ++ (files_text all ++ bytes_text task counts.bytes))

-- the progress of a command: `pull: 1,024 files, 23 MB`. If the number of all files is known, it is
-- `export: 3,200 of 7,833 files` or `follow: 1,024 of 7,832 files, 23 MB`
abbrev pub progress_text : Task → Option ℕ → Counts → List ℕ
progress_text task None counts = task_text task ++ counts_text counts
progress_text task (Some all) counts = task_text task ++ share_text task all counts

-- a pull found a checkpoint that is older than one that was held before
abbrev pub older_text : ℕ → ℕ → List ℕ
older_text size held =
    codes "pull: checkpoint of " ++ (count_text size
    ++ (codes " entries, older than one held of " ++ count_text held))

-- a command grew a log from held to size entries, by these files
abbrev pub grown_text : Task → ℕ → ℕ → Counts → List ℕ
grown_text task held size counts =
    task_text task ++ (count_text held ++ (codes " to " ++ (count_text size ++ (codes " entries, "
    ++ counts_text counts))))

-- the result of a pull: held is the number of entries of the largest checkpoint before it, and size
-- is that of the pulled checkpoint
abbrev pub pulled_text : ℕ → ℕ → Counts → List ℕ
pulled_text held size counts =
    if nat_lt size held then older_text size held else grown_text Pull held size counts

-- a command waited that number of seconds for a busy place: `follow: waited 12 s for log.example:80`
abbrev pub waited_text : Task → ℕ → List ℕ → List ℕ
waited_text task seconds place =
    task_text task ++ (codes "waited " ++ (count_text seconds ++ (codes " s for " ++ place)))

-- ---- lines

-- the line of a text: at most 79 characters of it, and a newline
abbrev pub line_of : List ℕ → List ℕ
line_of text = take 79 text ++ 10 ∷ []

-- the character is printed: from the space to the tilde
abbrev pub is_printed : ℕ → Bool
is_printed c = nat_le 32 c && nat_lt c 127

-- the text has only printed characters
abbrev pub are_printed : List ℕ → Bool
are_printed text = list_all is_printed text

-- the bytes are one line of at most 80 bytes with its newline
pub record IsLine (bytes : List ℕ) : Type 0 where
  pub text : List ℕ
  pub printed : are_printed text ≡ true
  pub within : length text ≤ 79
  pub bytes_are : bytes ≡ text ++ 10 ∷ []

-- ---- counts

-- one more file of len bytes; both counts stop at the last value of a u64
abbrev pub with_file : Counts → ℕ → Counts
with_file counts len = record {
  files = min (counts.files + 1) (2 ^ 64 - 1);
  bytes = min (counts.bytes + len) (2 ^ 64 - 1);
}
