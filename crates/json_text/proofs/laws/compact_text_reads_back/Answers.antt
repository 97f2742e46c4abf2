use Rattle.serde_json.specs.Written.{compact_text}
use Rattle.json_text.proofs.CleanTexts.{read-compact_text, compact_text-injective}
use Rattle.json_text.proofs.Documents.{document-some}
use Rattle.json_text.proofs.Utf8Texts.{IsUtf8-compact_text}
use Rattle.json_text.proofs.laws.compact_text_reads_back.Goals as goal

pub returns-clause-utf8 : goal.returns-clause-utf8
returns-clause-utf8 c = IsUtf8-compact_text

pub returns-clause-reads_back : goal.returns-clause-reads_back
returns-clause-reads_back c = λ d clean utf8 shallow. document-some (compact_text d) d (IsUtf8-compact_text d clean utf8) (read-compact_text d clean shallow)

pub returns-clause-one_tree : goal.returns-clause-one_tree
returns-clause-one_tree c = compact_text-injective
