-- What is kept and the state that it stands for, after one change; moves one after the other.
use Rattle.std.proofs.Common.{◌≡◌, ℕ, ◌<◌, List, [], ◌∷◌, ◌++◌, append_assoc, append-nil, length, map, Result, Ok, Err, refl, sym, ◌∙◌, ap, subst}
use Rattle.std.specs.Prelude.{OnOk, OnErr}
use Rattle.trapeze_io.specs.declared.failures.NoMemory.{NoMemory}
use Rattle.facet_list.specs.Store.{Write}
use Rattle.facet_list.specs.Rows.{Rows, rows_of}
use Rattle.label_queues.specs.Lists.{Lists, list_of, with_list}
use Rattle.trapeze_lines.specs.declared.line.Line.{Line}
use Rattle.wasm_semantics.specs.Threads.{Thread}
use Rattle.host_rules.specs.States as rules
use Rattle.host_rules.specs.States.{State, Moved, still, told, then_lines, then_move, set_at}
use Rattle.trapeze_host.specs.declared.kept.Activation.{Activation}
use Rattle.trapeze_host.specs.declared.kept.Kept.{Kept}
use Rattle.trapeze_host.specs.Adding.{AddsPart}
use Rattle.trapeze_host.specs.Loans.{Loan}
use Rattle.trapeze_host.specs.Keeping.{activation_of, state_of, Keeps, Made, Makes}
use Rattle.trapeze_host.proofs.SetPlaces.{set_table}

-- no line was appended
pub no_part : (lines before : List Line) → AddsPart lines before before
no_part lines before = record { part = []; rest = lines; added = sym (append-nil before); whole = refl }

pub none_part : (lines before after : List Line) → after ≡ before → AddsPart lines before after
none_part lines before after e = record { part = []; rest = lines; added = e ∙ sym (append-nil before); whole = refl }

module _ {F : Type 0} (rows : F → Rows) (loan : Loan) where
  -- what holds of the state of what is kept holds of each state that it stands for
  pub for_state : (Q : State Thread → Type 0) (k : Kept F) → ((w : List Write) → rows k.facets ≡ rows_of w → Q (state_of loan w k)) → (s : State Thread) → Keeps rows loan k s → Q s
  for_state Q k h s keeps = subst Q keeps.state (h s.store keeps.store)

  -- one line is appended, or none
  pub by_line : {X : Type 0} (result : Result X NoMemory) (m : Moved Thread) (line : Line) (s : State Thread) (k : Kept F) (before after : List Line) → m ≡ told line s → Keeps rows loan k s
      → OnOk result (after ≡ before ++ line ∷ []) → OnErr result (after ≡ before) → Makes rows loan result m k before after
  by_line (Ok x) m line s k before after e keeps ok err = record { keeps = subst (λ (m : Moved Thread). Keeps rows loan k m.state) (sym e) keeps; lines = ok ∙ ap (λ (m : Moved Thread). before ++ m.lines) (sym e) }
  by_line (Err x) m line s k before after e keeps ok err = record { part = []; rest = m.lines; added = err ∙ sym (append-nil before); whole = refl }

  -- nothing is done
  pub still_made : (k : Kept F) (s : State Thread) (lines : List Line) → Keeps rows loan k s → Made rows loan (still s) k lines lines
  still_made k s lines keeps = record { keeps = keeps; lines = sym (append-nil lines) }

  -- two moves, one after the other
  pub then_made : (m n : Moved Thread) (k j : Kept F) (before between after : List Line) → Made rows loan m k before between → Made rows loan n j between after → Made rows loan (then_move m n) j before after
  then_made m n k j before between after x y = record { keeps = y.keeps; lines = y.lines ∙ (ap (λ ls. ls ++ n.lines) x.lines ∙ append_assoc before m.lines n.lines) }

  pub then_part : (m n : Moved Thread) (k : Kept F) (before between after : List Line) → Made rows loan m k before between → AddsPart n.lines between after → AddsPart (then_move m n).lines before after
  then_part m n k before between after x y = record {
    part = m.lines ++ y.part;
    rest = y.rest;
    added = y.added ∙ (ap (λ ls. ls ++ y.part) x.lines ∙ append_assoc before m.lines y.part);
    whole = ap (λ ls. m.lines ++ ls) y.whole ∙ sym (append_assoc m.lines y.part y.rest);
  }

  pub part_then : (m n : Moved Thread) (before after : List Line) → AddsPart m.lines before after → AddsPart (then_move m n).lines before after
  part_then m n before after x = record {
    part = x.part;
    rest = x.rest ++ n.lines;
    added = x.added;
    whole = ap (λ ls. ls ++ n.lines) x.whole ∙ append_assoc x.part x.rest n.lines;
  }

  pub then_makes : {X : Type 0} (result : Result X NoMemory) (m n : Moved Thread) (k j : Kept F) (before between after : List Line) → Made rows loan m k before between → Makes rows loan result n j between after
      → Makes rows loan result (then_move m n) j before after
  then_makes (Ok x) m n k j before between after p q = then_made m n k j before between after p q
  then_makes (Err x) m n k j before between after p q = then_part m n k before between after p q

  -- the list of a label is set
  pub keeps_list : (k : Kept F) (queues : Lists Activation) (l : ℕ) (xs : List Activation) (s : State Thread) → Keeps rows loan k s → l < length k.queues.lists → queues ≡ with_list k.queues l xs
      → Keeps rows loan (record k { queues = queues }) (record s { lists = set_at s.lists l (map (activation_of loan) xs) })
  keeps_list k queues l xs s keeps h e = for_state (λ s. Keeps rows loan (record k { queues = queues }) (record s { lists = set_at s.lists l (map (activation_of loan) xs) })) k
      (λ w r. record {
        store = r;
        state = ap (λ (q : Lists Activation). state_of loan w (record k { queues = q })) e
            ∙ ap (λ (ls : ℕ → List (rules.Activation Thread)). record (state_of loan w k) { lists = ls }) (set_table (map (activation_of loan)) k.queues.lists [] l xs h);
      }) s keeps

  -- the same lists
  pub keeps_same_list : (k : Kept F) (queues : Lists Activation) (s : State Thread) → Keeps rows loan k s → queues ≡ k.queues → Keeps rows loan (record k { queues = queues }) s
  keeps_same_list k queues s keeps e = subst (λ (q : Lists Activation). Keeps rows loan (record k { queues = q }) s) (sym e) keeps

  -- the list of a label in the state
  pub list_here : (k : Kept F) (l : ℕ) (s : State Thread) → Keeps rows loan k s → s.lists l ≡ map (activation_of loan) (list_of k.queues l)
  list_here k l s keeps = sym (ap (λ (s : State Thread). s.lists l) keeps.state)
