-- A provider that is read from an object in UTF-8 is exact.
use Rattle.std.proofs.Common.{◌≡◌, ℕ, Bool, true, false, List, [], Option, None, Some, option_and_then, IfSome, Ok, refl, sym, ap, ◌∙◌, subst, arith, codes}
use Rattle.std.specs.Prelude.{⊤}
use Rattle.std.specs.Result.{result_ok}
use Rattle.std.specs.Str.{IsUtf8}
use Rattle.std.proofs.lemmas.Option.{same_Some, option_and_then_some}
use Rattle.base64.specs.Engines.{url_safe_no_pad}
use Rattle.base64.specs.GeneralPurpose.{encode_of, decode_of}
use Rattle.base64.proofs.EngineFacts.{decode_of_strict}
use Rattle.serde_json.specs.Data.{Data}
use Rattle.serde_json.specs.Find.{get, as_str}
use Rattle.base_types.specs.Forms.{has_size}
use Rattle.base_types.specs.Steps.{needed}
use Rattle.iam_names.specs.Forms.{passes}
use Rattle.iam_names.specs.declared.audience.Audience.{Audience}
use Rattle.json_text.specs.Clean.{HasUtf8}
use Rattle.json_text.specs.Document.{text_at}
use Rattle.cel_types.specs.declared.cel_type.CelType.{CelType}
use Rattle.cel_expression.specs.declared.expression.Expression.{Expression}
use Rattle.pools.specs.Environments.{condition_names as claim_names}
use Rattle.pools.specs.Providers.{ProviderView, IsFormed}
use Rattle.pools.specs.declared.mapping.Mapping.{Mapping}
use Rattle.pools.specs.declared.provider.TokenIssuer.{TokenIssuer}
use Rattle.service_config.specs.Configuration.{key_of}
use Rattle.service_view.specs.Commands.{IsCommand}
use Rattle.service_view.specs.declared.command.Command.{Command}
use Rattle.boundary.proofs.Options.{then-passing, bound, needed-is, result_ok-is}
use Rattle.sts_admin.specs.Mappings.{is_mapping, mapping_of}
use Rattle.sts_admin.specs.Providers.{issuer_at, audience_of, audiences_by, audiences_at, key_at, has_mapping, condition_by, formed, name_of, issuer_of, disabled_of, mapping_at, condition_at, treatment_of, provider_command}
use Rattle.sts_admin.specs.declared.command.CommandFault.TheVariants.{Field}
use Rattle.sts_admin.specs.declared.command.CommandMember.{CommandMember}
use Rattle.command_texts.specs.Exact.{IsSaidUnder, IsShortText, IsExactKey, IsExactMapping, IsExactProvider, IsExactCommand}
use Rattle.command_texts.proofs.ReadParts.{if_there, str_utf8, get_utf8, text_utf8, utf8_bytes, AreFew, short_all, said_there}
use Rattle.command_texts.proofs.ReadMappings.{mapping_exact}

-- ---- who signs

short_text : (text found : List ℕ) → IsUtf8 text → (text ≡ found) × (has_size 1 256 found ≡ true) → IsShortText found
short_text text found utf8 is = record { utf8 = subst IsUtf8 is.0 utf8; size = is.1 }

short_at : (o : Option (List ℕ)) (found : List ℕ) → IfSome o IsUtf8 → (o ≡ Some found) × (has_size 1 256 found ≡ true) → IsShortText found
short_at o found utf8 is = record { utf8 = if_there IsUtf8 o found utf8 is.0; size = is.1 }

audience_exact : (d : Data) (text : List ℕ) → HasUtf8 d → audience_of d ≡ Some text → IsShortText text
audience_exact d text utf8 h = short_at (as_str d) text (str_utf8 d utf8) (then-passing (has_size 1 256) (as_str d) text h)

audiences_exact : (o : Option Data) (found : List (List ℕ)) → IfSome o HasUtf8 → audiences_by o ≡ Some found → AreFew IsShortText 10 found
audiences_exact None found utf8 h = subst (AreFew IsShortText 10) (same_Some [] found h) (record { few = omega arith; each = tt })
audiences_exact (Some d) found utf8 h = short_all audience_of IsShortText audience_exact 10 d found utf8 h

key_exact : (text key : List ℕ) → IsUtf8 text → key_of text ≡ Some key → IsExactKey key
key_exact text key utf8 h =
    let sized = then-passing (has_size 32 128) (result_ok (decode_of url_safe_no_pad text)) key h in
    let decoded : decode_of url_safe_no_pad text ≡ Ok key = result_ok-is (decode_of url_safe_no_pad text) key sized.0 in
    let written : text ≡ encode_of url_safe_no_pad key = decode_of_strict url_safe_no_pad text key (refl, refl) (utf8_bytes text utf8) decoded in
    ap key_of (sym written) ∙ h

-- its parts are exact
record IsExactIssuer (issuer : TokenIssuer) : Type 0 where
  name : IsShortText issuer.name
  key : IsExactKey issuer.key
  audiences : AreFew IsShortText 10 issuer.audiences

issuer_exact : (d : Data) (issuer : TokenIssuer) → HasUtf8 d → issuer_of d ≡ Ok issuer → IsExactIssuer issuer
unfolding issuer_of
issuer_exact d issuer utf8 h =
    bound _ (needed (Field CommandMember.Issuer) (issuer_at d)) issuer h (λ name name_is h.
    bound _ (needed (Field CommandMember.Key) (key_at d)) issuer h (λ key key_is h.
    bound _ (needed (Field CommandMember.Audiences) (audiences_at d)) issuer h (λ audiences audiences_are h.
    let made : TokenIssuer = record { name = name; key = key; audiences = audiences } in
    let same : made ≡ issuer = cc in
    subst IsExactIssuer same (record {
      name = short_at (text_at (codes "issuer") d) name (text_utf8 (codes "issuer") d utf8) (then-passing (has_size 1 256) (text_at (codes "issuer") d) name (needed-is _ _ name name_is));
      key = option_and_then_some key_of (text_at (codes "key") d) key (needed-is _ _ key key_is) (λ text there read.
          key_exact text key (if_there IsUtf8 _ text (text_utf8 (codes "key") d utf8) there) read);
      audiences = audiences_exact (get (codes "audiences") d) audiences (get_utf8 (codes "audiences") d utf8) (needed-is _ _ audiences audiences_are);
    }))))

-- ---- what it does with claims

formed-is : (name : CommandMember) (b : Bool) (x : ⊤) → formed name b ≡ Ok x → b ≡ true
formed-is name true x h = refl
formed-is name false x h = cc

has_mapping-is : (d : Data) (disabled : Bool) → disabled_of d ≡ Ok disabled → has_mapping d ≡ true
unfolding disabled_of
has_mapping-is d disabled h = bound _ (formed CommandMember.Mapping (has_mapping d)) disabled h (λ x is more. formed-is CommandMember.Mapping (has_mapping d) x is)

mapping_read : (o : Option Data) (mapping : Mapping) → IfSome o HasUtf8 → passes is_mapping o ≡ true → option_and_then mapping_of o ≡ Some mapping → IsExactMapping mapping
mapping_read None mapping utf8 is h = cc
mapping_read (Some d) mapping utf8 is h = mapping_exact d mapping utf8 is h

condition_said : (o : Option (List ℕ)) (found : Option Expression) → IfSome o IsUtf8 → condition_by o ≡ Some found → IfSome found (IsSaidUnder claim_names CelType.Bool)
condition_said None found utf8 h = subst (λ (e : Option Expression). IfSome e (IsSaidUnder claim_names CelType.Bool)) (same_Some None found h) tt
condition_said (Some text) found utf8 h = said_there claim_names CelType.Bool text found utf8 h

treatment_exact : (d : Data) (treatment : _) → HasUtf8 d → treatment_of d ≡ Ok treatment
    → IsExactMapping treatment.mapping × IfSome treatment.condition (IsSaidUnder claim_names CelType.Bool)
unfolding treatment_of
treatment_exact d treatment utf8 h =
    bound _ (disabled_of d) treatment h (λ disabled disabled_is h.
    bound _ (mapping_at d) treatment h (λ mapping mapping_is h.
    bound _ (condition_at d) treatment h (λ condition condition_is h.
    let same : record { mapping = mapping; condition = condition; disabled = disabled } ≡ treatment = cc in
    rw (← same) (
      mapping_read (get (codes "mapping") d) mapping (get_utf8 (codes "mapping") d utf8) (has_mapping-is d disabled disabled_is) (needed-is _ _ mapping mapping_is),
      condition_said (text_at (codes "condition") d) condition (text_utf8 (codes "condition") d utf8) (needed-is _ _ condition condition_is),
    ))))

-- ---- the provider

abbrev provider_by : Audience → TokenIssuer → Mapping → Option Expression → Bool → ProviderView
provider_by name issuer mapping condition disabled = record {
  name = name;
  issuer = issuer.name;
  key = issuer.key;
  audiences = issuer.audiences;
  mapping = mapping;
  condition = condition;
  disabled = disabled;
}

pub provider_exact : (d : Data) (command : Command) → HasUtf8 d → IsCommand command → provider_command d ≡ Ok command → IsExactCommand command
unfolding provider_command
provider_exact d command utf8 is h =
    bound _ (name_of d) command h (λ name name_is h.
    bound _ (issuer_of d) command h (λ issuer issuer_is h.
    bound _ (treatment_of d) command h (λ treatment treatment_is h.
    let provider = provider_by name issuer treatment.mapping treatment.condition treatment.disabled in
    let same : Command.Provider provider ≡ command = cc in
    let made : IsFormed provider = subst IsCommand (sym same) is in
    let signed = issuer_exact d issuer utf8 issuer_is in
    let treated = treatment_exact d treatment utf8 treatment_is in
    let exact : IsExactProvider provider = record {
      formed = made;
      issuer = signed.name;
      key = signed.key;
      few = signed.audiences.few;
      audiences = signed.audiences.each;
      mapping = treated.0;
      condition = treated.1;
    } in
    subst IsExactCommand same exact)))
