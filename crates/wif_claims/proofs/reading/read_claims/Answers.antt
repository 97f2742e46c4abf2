use Rattle.std.proofs.Common.{Err, inl, sym, ap}
use Rattle.serde_json.specs.View.{view}
use Rattle.wif_claims.specs.Payload.{claims_of}
use Rattle.wif_claims.proofs.HeldForms.{has-forms}
use Rattle.wif_claims.proofs.Payloads.{claims_of-none, gives-document, read-gives, refused-gives}
use Rattle.wif_claims.proofs.reading.read_claims.Goals as goal

pub returns-in-Ok-clause-exact : goal.returns-in-Ok-clause-exact
returns-in-Ok-clause-exact c =
    gives-document c.args.payload.now (view c.in-Ok.tree) c.claims_of_value.result c.in-Ok.ensures.found c.claims_of_value.ensures.exact

pub returns-in-Ok-clause-read : goal.returns-in-Ok-clause-read
returns-in-Ok-clause-read c =
    read-gives c.claims_of_value.result (claims_of c.args.payload.now)
    (gives-document c.args.payload.now (view c.in-Ok.tree) c.claims_of_value.result c.in-Ok.ensures.found c.claims_of_value.ensures.exact)

pub returns-in-Ok-clause-refused : goal.returns-in-Ok-clause-refused
returns-in-Ok-clause-refused c =
    refused-gives c.claims_of_value.result (claims_of c.args.payload.now)
    (gives-document c.args.payload.now (view c.in-Ok.tree) c.claims_of_value.result c.in-Ok.ensures.found c.claims_of_value.ensures.exact)

pub returns-in-Err-NoJson-clause-exact : goal.returns-in-Err-NoJson-clause-exact
returns-in-Err-NoJson-clause-exact c = inl (sym (claims_of-none c.args.payload.now (c.in-Err-NoJson.ensures.no_json (ap Err c.in-Err-NoJson.field-0-is))))

pub returns-in-Err-NoJson-clause-refused : goal.returns-in-Err-NoJson-clause-refused
returns-in-Err-NoJson-clause-refused c = λ _. claims_of-none c.args.payload.now (c.in-Err-NoJson.ensures.no_json (ap Err c.in-Err-NoJson.field-0-is))

pub returns-in-Ok-clause-forms : goal.returns-in-Ok-clause-forms
returns-in-Ok-clause-forms c = has-forms (view c.in-Ok.tree) c.claims_of_value.result c.claims_of_value.ensures.exact c.claims_of_value.ensures.utf8
