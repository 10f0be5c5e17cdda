-- The document of a policy: its root table.
use Rattle.std.specs.Prelude.{ℕ, List, option_map, ok_or, Result, Err, if◌then◌else◌}
use Rattle.std.specs.Str.{is_utf8}
use Rattle.toml.specs.Parse.{parse_document}
use Rattle.toml.specs.Data.{Members}
use Rattle.policy_toml.specs.declared.place.Part.TheVariants as part
use Rattle.policy_toml.specs.declared.error.PolicyError.{PolicyError}
use Rattle.policy_toml.specs.declared.error.PolicyError.TheVariants.{Toml, Extra}
use Rattle.policy_toml.specs.Places.{row_place}
use Rattle.policy_toml.specs.Rows.{unless, extra_key}

-- the bytes are a UTF-8 text that is a TOML document
abbrev pub document_of : List ℕ → Result Members PolicyError
document_of bytes = if is_utf8 bytes then ok_or (parse_document bytes) Toml else Err Toml

-- the root has no key but a policy's
unfoldable pub root_keys : Members → Result (Unit {0}) PolicyError
root_keys root = unless (option_map (λ row. Extra (row_place part.Root row)) (extra_key part.Root root))
