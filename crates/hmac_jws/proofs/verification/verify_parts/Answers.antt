use Rattle.std.proofs.Common.{◌≡◌, ◌∙◌, sym, ap, ap₂, None, true, false, inr}
use Rattle.std.specs.Str.{bytes_eq}
use Rattle.json_text.specs.Document.{document}
use Rattle.hmac_jws.specs.Hmac.{hmac_of}
use Rattle.hmac_jws.specs.Compact.{signing_input}
use Rattle.hmac_jws.specs.Verified.{first_header_fault}
use Rattle.hmac_jws.proofs.FirstFaults.{IsFirst, refused, by_base64, by_header, first_of_other_parts, first_base64-header, first_base64-payload, first_base64-mac, first_header, first_mac, first_none, payload_of_three}
use Rattle.hmac_jws.proofs.verification.verify_parts.Goals as goal

pub returns-in_default-clause-refused : goal.returns-in_default-clause-refused
returns-in_default-clause-refused c = inr (first_of_other_parts c.args.key.now c.args.text.now c.in_default.ensures.none)

pub returns-in_err-header-clause-refused : goal.returns-in_err-header-clause-refused
returns-in_err-header-clause-refused c =
    let key = c.args.key.now in
    let text = c.args.text.now in
    let p = c.in-Some.parts in
    refused (IsFirst key text) c.from_residual.result c.in_err-header.field-0.0 c.from_residual.ensures.1
    (by_base64 key text 0 _ _ c.in_err-header.ensures.refused
    (first_base64-header key text p.header.now p.payload.now p.mac.now c.in-Some.ensures.found))

pub returns-in_err-payload-clause-refused : goal.returns-in_err-payload-clause-refused
returns-in_err-payload-clause-refused c =
    let key = c.args.key.now in
    let text = c.args.text.now in
    let p = c.in-Some.parts in
    refused (IsFirst key text) c.from_residual-in_err-payload.result c.in_err-payload.field-0.0 c.from_residual-in_err-payload.ensures.1
    (by_base64 key text 1 _ _ c.in_err-payload.ensures.refused
    (first_base64-payload key text p.header.now p.payload.now p.mac.now c.in-Some.ensures.found c.in_ok-header.header.items c.in_ok-header.ensures.decoded))

pub returns-in_err-mac-clause-refused : goal.returns-in_err-mac-clause-refused
returns-in_err-mac-clause-refused c =
    let key = c.args.key.now in
    let text = c.args.text.now in
    let p = c.in-Some.parts in
    refused (IsFirst key text) c.from_residual-in_err-mac.result c.in_err-mac.field-0.0 c.from_residual-in_err-mac.ensures.1
    (by_base64 key text 2 _ _ c.in_err-mac.ensures.refused
    (first_base64-mac key text p.header.now p.payload.now p.mac.now c.in-Some.ensures.found c.in_ok-header.header.items c.in_ok-header.ensures.decoded
    c.in_ok-payload.payload.items c.in_ok-payload.ensures.decoded))

pub returns-in_err-check_header-clause-refused : goal.returns-in_err-check_header-clause-refused
returns-in_err-check_header-clause-refused c =
    let key = c.args.key.now in
    let text = c.args.text.now in
    let p = c.in-Some.parts in
    let fault = c.in_err-check_header.field-0.0 in
    let header = c.in_ok-header.header.items in
    refused (IsFirst key text) c.from_residual-in_err-check_header.result fault c.from_residual-in_err-check_header.ensures.1
    (by_header key text (first_header_fault (document header)) fault (rw c.as_slice.ensures.value at c.in_err-check_header.ensures.faulty)
    (first_header key text p.header.now p.payload.now p.mac.now c.in-Some.ensures.found header c.in_ok-header.ensures.decoded
    c.in_ok-payload.payload.items c.in_ok-payload.ensures.decoded c.in_ok-mac.mac.items c.in_ok-mac.ensures.decoded fault))

pub returns-then-not-is_same_mac-clause-refused : goal.returns-then-not-is_same_mac-clause-refused
returns-then-not-is_same_mac-clause-refused c =
    let key = c.args.key.now in
    let text = c.args.text.now in
    let p = c.in-Some.parts in
    let header = c.in_ok-header.header.items in
    let mac = c.in_ok-mac.mac.items in
    let good : first_header_fault (document header) ≡ None = rw c.as_slice.ensures.value at c.in_ok-check_header.ensures.good in
    let other : bytes_eq mac (hmac_of key (signing_input p.header.now p.payload.now)) ≡ false =
    sym (c.is_same_mac.ensures ∙ ap₂ bytes_eq c.as_slice-2.ensures.value (c.hmac.ensures ∙ ap (hmac_of key) c.signed_input.ensures)) ∙ c.if-not-is_same_mac.true in
    inr (first_mac key text p.header.now p.payload.now p.mac.now c.in-Some.ensures.found header c.in_ok-header.ensures.decoded
    c.in_ok-payload.payload.items c.in_ok-payload.ensures.decoded mac c.in_ok-mac.ensures.decoded good other)

pub returns-clause-verified : goal.returns-clause-verified
returns-clause-verified c =
    let key = c.args.key.now in
    let text = c.args.text.now in
    let p = c.in-Some.parts in
    let header = c.in_ok-header.header.items in
    let payload = c.in_ok-payload.payload.items in
    let mac = c.in_ok-mac.mac.items in
    let good : first_header_fault (document header) ≡ None = rw c.as_slice.ensures.value at c.in_ok-check_header.ensures.good in
    let same : bytes_eq mac (hmac_of key (signing_input p.header.now p.payload.now)) ≡ true =
    sym (c.is_same_mac.ensures ∙ ap₂ bytes_eq c.as_slice-2.ensures.value (c.hmac.ensures ∙ ap (hmac_of key) c.signed_input.ensures)) ∙ c.if-not-is_same_mac.false in (
      first_none key text p.header.now p.payload.now p.mac.now c.in-Some.ensures.found header c.in_ok-header.ensures.decoded
          payload c.in_ok-payload.ensures.decoded mac c.in_ok-mac.ensures.decoded good same,
      c.new.ensures ∙ sym (payload_of_three key text p.header.now p.payload.now p.mac.now c.in-Some.ensures.found header c.in_ok-header.ensures.decoded payload c.in_ok-payload.ensures.decoded),
    )
