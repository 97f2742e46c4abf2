use Rattle.std.proofs.Common.{◌∙◌, ap}
use Rattle.client_proto.specs.Urls.{url_of}
use Rattle.client_proto.proofs.UrlLemmas.{url-read, url-sound}
use Rattle.client_proto.proofs.laws.urls_are_their_parts.Goals as goal

pub returns : goal.returns
returns c text url = (λ h. let says = url-sound text url h in (says.text_is, says.url_is), λ says. ap url_of says.0 ∙ url-read url says.1)
