-- A reader of a file within the limit, and how many events are played of it.
use Rattle.std.proofs.Common.{◌≡◌, ℕ, ◌+◌, ◌^◌, ◌<◌, ◌≤◌, List, [], ◌++◌, length, length-append, ◌∙◌, refl, sym, ap, subst, None, false, arith}
use Rattle.label_lattice.specs.Order.{Order}
use Rattle.policy_toml.specs.Parts.{Parts, IsPolicy}
use Rattle.event_file.specs.Known.{AreNumbered}
use Rattle.event_file.specs.Reader.{Reader}
use Rattle.trapeze_host.specs.Standing.{known_in}
use Rattle.trapeze_cli.specs.Command.{events_limit}
use Rattle.trapeze_cli.specs.Playing.{IsPaced, most_turns}
use Rattle.trapeze_cli.proofs.PassedLines.{Stays}

-- the turns of one more line can be counted
pub few_turns : (policy : Parts) (reader : Reader) (played : ℕ) → IsPaced policy reader played → played + most_turns < 2 ^ 62
few_turns policy reader played p = omega (arith, p.few, p.fed)

-- one more entry, which took a byte at least
pub paced_entry : (policy : Parts) (old new : Reader) (before now : ℕ) → IsPaced policy old before → Stays old new → length new.kept < length old.kept
    → now ≤ before + most_turns → IsPaced policy new now
paced_entry policy old new before now p s less few = record {
  known = s.known ∙ p.known;
  fed = omega (arith, s.fed, p.fed);
  few = omega (arith, s.fed, p.few, less, few);
}

-- a piece was fed
pub paced_fed : (policy : Parts) (old new : Reader) (played : ℕ) (bytes : List ℕ) → IsPaced policy old played → new ≡ record old { kept = old.kept ++ bytes; fed = old.fed + length bytes }
    → old.fed + length bytes ≤ events_limit → IsPaced policy new played
paced_fed policy old new played bytes p is fits =
    let kept : length new.kept ≡ length old.kept + length bytes = ap (λ (r : Reader). length r.kept) is ∙ length-append old.kept bytes in
    let fed : new.fed ≡ old.fed + length bytes = ap (λ (r : Reader). r.fed) is in
    record {
      known = ap (λ (r : Reader). r.known) is ∙ p.known;
      fed = omega (arith, fed, fits);
      few = omega (arith, fed, kept, p.few);
    }

abbrev named : List (List ℕ) → List (List ℕ) → List (List ℕ) → Reader
named labels clients functions =
    record { known = record { labels = labels; clients = clients; functions = functions }; kept = []; lines = 0; fed = 0; finished = false; bad = None }

-- a reader that knows the names of a policy
pub reader_new : (policy : Parts) (order : Order) (clients functions : List (List ℕ)) (r : Reader) → order ≡ policy.lattice → clients ≡ policy.clients → functions ≡ policy.functions
    → r ≡ record { known = record { labels = order.names; clients = clients; functions = functions }; kept = []; lines = 0; fed = 0; finished = false; bad = None }
    → r ≡ record { known = known_in policy; kept = []; lines = 0; fed = 0; finished = false; bad = None }
reader_new policy order clients functions r o c f is =
    is ∙ ap (λ (x : Order). named x.names clients functions) o ∙ ap (λ cs. named policy.lattice.names cs functions) c ∙ ap (λ fs. named policy.lattice.names policy.clients fs) f

pub paced_new : (policy : Parts) (r : Reader) (played : ℕ) → r ≡ record { known = known_in policy; kept = []; lines = 0; fed = 0; finished = false; bad = None } → played ≡ 0 → IsPaced policy r played
paced_new policy r played is none = rw (is, none) (record { known = refl; fed = omega arith; few = omega arith })

-- the clients and the functions of a policy can be numbered
pub numbered_clients : (parts : Parts) (names : List (List ℕ)) → IsPolicy parts → names ≡ parts.clients → AreNumbered names
numbered_clients parts names is same = subst AreNumbered (sym same) (record { ascending = is.clients; few = omega (arith, is.few_clients) })

pub numbered_functions : (parts : Parts) (names : List (List ℕ)) → IsPolicy parts → names ≡ parts.functions → AreNumbered names
numbered_functions parts names is same = subst AreNumbered (sym same) (record { ascending = is.functions; few = omega (arith, is.few_functions) })
