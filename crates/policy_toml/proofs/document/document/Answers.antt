use Rattle.std.proofs.Common.{◌∙◌, ap, sym}
use Rattle.std.specs.Prelude.{ok_or}
use Rattle.toml.specs.Parse.{parse_document}
use Rattle.policy_toml.specs.declared.error.PolicyError.TheVariants.{Toml}
use Rattle.policy_toml.proofs.Rows.{document_of_text, document_of_none}
use Rattle.policy_toml.proofs.document.document.Goals as goal

pub returns-in_default : goal.returns-in_default
returns-in_default c = λ fault is. document_of_none c.args.bytes.now c.in_default.ensures.cases.0 ∙ cc

pub returns-in-Ok-table_from_str : goal.returns-in-Ok-table_from_str
returns-in-Ok-table_from_str c = document_of_text c.args.bytes.now c.in-Ok.ensures.cases.1
    ∙ ap (λ o. ok_or o Toml) (ap parse_document (sym c.in-Ok.ensures.cases.0) ∙ c.in-Ok-table_from_str.ensures.ok)
