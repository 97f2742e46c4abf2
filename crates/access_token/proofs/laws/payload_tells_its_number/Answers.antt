use Rattle.access_token.proofs.ExactTexts.{IsUtf8-payload_text, IsBytes-payload_text, document-payload_text, jti-payload_text}
use Rattle.access_token.proofs.laws.payload_tells_its_number.Goals as goal

pub returns-clause-utf8 : goal.returns-clause-utf8
returns-clause-utf8 c = IsUtf8-payload_text

pub returns-clause-bytes : goal.returns-clause-bytes
returns-clause-bytes c = IsBytes-payload_text

pub returns-clause-tree : goal.returns-clause-tree
returns-clause-tree c = document-payload_text

pub returns-clause-number : goal.returns-clause-number
returns-clause-number c = jti-payload_text
