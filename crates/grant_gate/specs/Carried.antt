-- What a token's text carries under a key.
use Rattle.std.specs.Prelude.{ℕ, List, Option, None, Some, Result, Ok, Err}
use Rattle.hmac_jws.specs.Verified.{first_jws_fault, payload_of}
use Rattle.hmac_jws.specs.declared.fault.JwsFault.{JwsFault}
use Rattle.hmac_jws.specs.declared.fault.JwsFault.TheVariants as jws
use Rattle.access_token.specs.declared.facts.Facts.{Facts}
use Rattle.access_token.specs.Reading.{payload_facts}
use Rattle.grant_gate.specs.declared.fault.GateFault.{GateFault}
use Rattle.grant_gate.specs.declared.fault.GateFault.TheVariants.{Shape, Mac, Claims, Memory}

-- a wrong MAC is told apart, and each other fault of the compact form is one of its shape
abbrev pub gate_fault : JwsFault → GateFault
gate_fault jws.Parts = Shape
gate_fault (jws.Base64 part) = Shape
gate_fault jws.Header = Shape
gate_fault jws.Alg = Shape
gate_fault jws.Crit = Shape
gate_fault jws.Mac = Mac
gate_fault jws.Memory = Memory

-- the facts that a payload says, where it says some
abbrev pub claimed : Option Facts → Result Facts GateFault
claimed None = Err Claims
claimed (Some facts) = Ok facts

-- the facts of a text that fails this rule, or none
abbrev pub carried_after : List ℕ → List ℕ → Option JwsFault → Result Facts GateFault
carried_after issuer text (Some fault) = Err (gate_fault fault)
carried_after issuer text None = claimed (payload_facts issuer (payload_of text))

-- The facts that a text carries: its MAC under the key is right, and its payload is the one that is written for
-- them and the issuer.
unfoldable pub carried_of : List ℕ → List ℕ → List ℕ → Result Facts GateFault
carried_of key issuer text = carried_after issuer text (first_jws_fault key text)
