use Rattle.std.proofs.Common.{◌≡◌, take, codes, sym, ◌∙◌, inl, inr}
use Rattle.mirror_files.specs.Stands.{parts_of}
use Rattle.mirror_files.proofs.BodyLemmas.{body_of, none_parted, none_tagged}
use Rattle.mirror_files.proofs.parts.lists_at.Goals as goal

pub returns-in_default : goal.returns-in_default
returns-in_default c =
    let m : take 8 c.args.bytes.now ≡ codes "TLMIRR02" = sym c.split_at.ensures.front
    ∙ c.is_new.ensures.0 c.if-is_new.true in
    let none = rw (c.in_default.is, c.split_at.ensures.back) at c.in_ok-found.ensures.none in
    (inl m, none_parted c.args.bytes.now m none)

pub returns-then-is_new : goal.returns-then-is_new
returns-then-is_new c =
    let m : take 8 c.args.bytes.now ≡ codes "TLMIRR02" = sym c.split_at.ensures.front
    ∙ c.is_new.ensures.0 c.if-is_new.true in
    let found = rw (c.in-Some.is, c.split_at.ensures.back) at c.in_ok-found.ensures.found in
    let version = rw c.in-Some.is at c.in_ok-found.ensures.version in
    body_of c.args.bytes.now (parts_of c.in-Some.found.0) _ (m ∙ sym version) found

pub returns-in_default-2 : goal.returns-in_default-2
returns-in_default-2 c =
    let m : take 8 c.args.bytes.now ≡ codes "TLMIRR01" = sym c.split_at.ensures.front
    ∙ c.is_old.ensures.0 c.if-is_old.true in
    let none = rw (c.in_default-2.is, c.split_at.ensures.back) at c.in_ok-found-2.ensures.none in
    (inr m, none_tagged c.args.bytes.now m none)

pub returns-then-is_old : goal.returns-then-is_old
returns-then-is_old c =
    let m : take 8 c.args.bytes.now ≡ codes "TLMIRR01" = sym c.split_at.ensures.front
    ∙ c.is_old.ensures.0 c.if-is_old.true in
    let found = rw (c.in-Some-2.is, c.split_at.ensures.back) at c.in_ok-found-2.ensures.found in
    let version = rw c.in-Some-2.is at c.in_ok-found-2.ensures.version in
    body_of c.args.bytes.now (parts_of c.in-Some-2.found.0) _ (m ∙ sym version) found
