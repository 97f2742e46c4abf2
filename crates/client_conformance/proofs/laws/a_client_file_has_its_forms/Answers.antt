use Rattle.client_conformance.proofs.Files.{file_is}
use Rattle.client_conformance.proofs.laws.a_client_file_has_its_forms.Goals as goal

pub returns : goal.returns
returns c = file_is
