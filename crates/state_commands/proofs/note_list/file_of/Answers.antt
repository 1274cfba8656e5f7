use Rattle.std.proofs.Common.{◌≡◌, ℕ, List, map, ap, sym, ◌∙◌}
use Rattle.program_io.specs.Named.{NamedFile}
use Rattle.state_commands.specs.NoteFiles.{alike_count, head_note, is_alike, note_file_name}
use Rattle.state_commands.proofs.NoteWalks.{count_by-map}
use Rattle.state_commands.proofs.note_list.file_of.Goals as goal

pub returns : goal.returns
returns c =
    let before = c.args.before.now in
    let head = head_note c.args.head.now in
    let counted : c.count_alike-number.result ≡ alike_count (map head_note before) head =
    c.count_alike-number.ensures ∙ sym (count_by-map (λ other. is_alike other head) head_note before) in
    let named : List ℕ → NamedFile = λ name. (name, head.note) in
    ap named (c.in_ok-name.ensures ∙ ap (note_file_name head.size head.root) counted)
