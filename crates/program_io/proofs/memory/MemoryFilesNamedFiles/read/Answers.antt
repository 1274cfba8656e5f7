use Rattle.std.proofs.Common.{◌≡◌, ◌<◌, length, map, sym, ap, subst, ◌∙◌}
use Rattle.std.specs.Prelude.{option_map, string_bytes}
use Rattle.std.proofs.lemmas.Option.{none-some, same_Some}
use Rattle.program_io.specs.Named.{contents_of}
use Rattle.program_io.specs.declared.named.TheConstants.{MAX_FILE_LEN}
use Rattle.program_io.proofs.memory.MemoryFilesNamedFiles.read.Goals as goal

pub returns-then-bytes-gt-MAX_FILE_LEN-clause-bytes : goal.returns-then-bytes-gt-MAX_FILE_LEN-clause-bytes
returns-then-bytes-gt-MAX_FILE_LEN-clause-bytes c bytes is =
    let name = c.args.name.now in
    let stands : option_map (λ b. b.now) c.bytes_under.result ≡ contents_of c.args.self.now name =
    c.bytes_under.ensures ∙
    (ap (λ puts. contents_of (map (λ put. (string_bytes put.0, put.1.items)) puts) name) c.deref.ensures.value ∙
    ap (λ puts. contents_of puts name) c.self.view_is) in
    let same : c.in-Some.bytes.now ≡ bytes =
    same_Some c.in-Some.bytes.now bytes (sym (ap (option_map (λ b. b.now)) c.in-Some.is) ∙ (stands ∙ is)) in
    subst (λ there. MAX_FILE_LEN < length there) same c.if-bytes-gt-MAX_FILE_LEN.true

pub returns-in-None-clause-bytes : goal.returns-in-None-clause-bytes
returns-in-None-clause-bytes c bytes is =
    let name = c.args.name.now in
    let stands : option_map (λ b. b.now) c.bytes_under.result ≡ contents_of c.args.self.now name =
    c.bytes_under.ensures ∙
    (ap (λ puts. contents_of (map (λ put. (string_bytes put.0, put.1.items)) puts) name) c.deref.ensures.value ∙
    ap (λ puts. contents_of puts name) c.self.view_is) in
    absurd (none-some bytes (sym (ap (option_map (λ b. b.now)) c.in-None.is) ∙ (stands ∙ is)))
