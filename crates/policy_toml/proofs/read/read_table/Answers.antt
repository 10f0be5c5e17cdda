use Rattle.std.proofs.Common.{◌≡◌, ℕ, List, Ok, length, map, string_bytes, refl, sym, ◌∙◌, ap, subst}
use Rattle.std.specs.Prelude.{All}
use Rattle.std.proofs.lemmas.Result.{err_from_is_err_and}
use Rattle.toml.specs.View.{table_view}
use Rattle.label_lattice.specs.Order.{count}
use Rattle.label_limits.specs.declared.limits.Limits.{Limits}
use Rattle.policy_toml.specs.Limits.{IsRowOf}
use Rattle.policy_toml.specs.Channels.{channels_of}
use Rattle.policy_toml.specs.Gates.{gates_of}
use Rattle.trapeze_io.specs.Names.{Ascend}
use Rattle.policy_toml.specs.PolicyOf.{limits_by_label}
use Rattle.policy_toml.proofs.WholePolicy.{is_policy, accepted, parts_same}
use Rattle.policy_toml.proofs.read.read_table.Goals as goal

pub all_limits-requires : goal.all_limits-requires
all_limits-requires c = subst (λ (x : List (ℕ × Limits)). All (IsRowOf (count c.in_ok-lattice.lattice)) x) (sym c.deref-3.ensures.value) c.in_ok-limits.ensures.rows

pub from_parts-requires : goal.from_parts-requires
from_parts-requires c =
    is_policy c.in_ok-lattice.lattice c.in_ok-limits-2.limits.items c.in_ok-channels.channels c.in_ok-functions-2.functions.items (map (λ file. string_bytes file) c.in_ok-functions-2.files.items)
    c.in_ok-clients-2.clients.items (map (λ label. label.number) c.in_ok-clients-2.clearances.items) c.in_ok-gates.gates c.in_ok-functions.functions.items c.in_ok-clients.clients.items
    c.in_ok-limits-2.ensures.count c.in_ok-limits-2.ensures.in_range
    (rw (← c.deref.ensures.value) c.in_ok-channels.ensures.below)
    (record { names_are = c.in_ok-functions-2.ensures.names; files_are = c.in_ok-functions-2.ensures.files; ascend = c.in_ok-functions.ensures.ascend; each = c.in_ok-functions.ensures.files; few = c.in_ok-functions.ensures.few })
    (record { names_are = c.in_ok-clients-2.ensures.names; clearances_are = c.in_ok-clients-2.ensures.clearances; ascend = c.in_ok-clients.ensures.ascend; each = c.in_ok-clients.ensures.clearances; few = c.in_ok-clients.ensures.few })
    (rw (← c.deref-2.ensures.value) c.in_ok-gates.ensures.below)

pub returns : goal.returns
returns c =
    let functions = c.in_ok-functions.functions.items in
    let function_names : c.deref.result.now ≡ map (λ f. f.0) functions = c.deref.ensures.value ∙ c.in_ok-functions-2.ensures.names in
    let channels : channels_of c.in_ok-lattice.lattice.names (map (λ f. f.0) functions) (table_view c.args.root.now) ≡ Ok c.in_ok-channels.channels = rw (← function_names) c.in_ok-channels.ensures.read in
    let same_names : c.deref-2.result.now ≡ map (λ f. f.0) functions = c.deref-2.ensures.value ∙ c.in_ok-functions-2.ensures.names in
    let gates : gates_of c.in_ok-lattice.lattice.names (map (λ f. f.0) functions) (table_view c.args.root.now) ≡ Ok c.in_ok-gates.gates = rw (← same_names) c.in_ok-gates.ensures.read in
    let by_label : c.in_ok-limits-2.limits.items ≡ limits_by_label (count c.in_ok-lattice.lattice) c.in_ok-limits.limits.items =
    c.in_ok-limits-2.ensures.limits ∙ ap (limits_by_label (count c.in_ok-lattice.lattice)) c.deref-3.ensures.value in
    accepted (table_view c.args.root.now) c.in_ok-lattice.lattice c.in_ok-limits.limits.items functions c.in_ok-channels.channels c.in_ok-clients.clients.items c.in_ok-gates.gates
    c.in_ok-lattice.ensures c.in_ok-limits.ensures.read c.in_ok-functions.ensures.read channels c.in_ok-clients.ensures.read gates
    ∙ ap Ok (sym (c.from_parts.ensures ∙ parts_same by_label c.in_ok-functions-2.ensures.names c.in_ok-functions-2.ensures.files c.in_ok-clients-2.ensures.names c.in_ok-clients-2.ensures.clearances))

pub channels-requires-clause-ascend : goal.channels-requires-clause-ascend
channels-requires-clause-ascend c = subst Ascend (sym (c.deref.ensures.value ∙ c.in_ok-functions-2.ensures.names)) c.in_ok-functions.ensures.ascend

pub gates-requires-clause-ascend : goal.gates-requires-clause-ascend
gates-requires-clause-ascend c = subst Ascend (sym (c.deref-2.ensures.value ∙ c.in_ok-functions-2.ensures.names)) c.in_ok-functions.ensures.ascend

pub returns-in_err-clients-2 : goal.returns-in_err-clients-2
returns-in_err-clients-2 c =
    let p = err_from_is_err_and c.from_residual-in_err-clients-2.result c.from_residual-in_err-clients-2.ensures.1 in
    rw (p.1, p.2) (λ fault ne. absurd cc)

pub returns-in_err-limits-2 : goal.returns-in_err-limits-2
returns-in_err-limits-2 c =
    let p = err_from_is_err_and c.from_residual-in_err-limits-2.result c.from_residual-in_err-limits-2.ensures.1 in
    rw (p.1, p.2) (λ fault ne. absurd cc)
