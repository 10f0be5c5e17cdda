-- What a host call gives: its lines are at its label, it raises upwards, and from stores that an observer sees alike it is the same.
use Rattle.std.proofs.Common.{◌≡◌, ℕ, true, false, cond, List, [], ◌∷◌, length, take, Option, Some, None, Result, Ok, Err, refl, ap}
use Rattle.std.specs.Prelude.{◌==◌}
use Rattle.facet_list.specs.Store.{Write, written}
use Rattle.trapeze_lines.specs.declared.line.Line.{Line}
use Rattle.trapeze_lines.specs.declared.line.Kind.TheVariants as kind
use Rattle.trapeze_lines.specs.declared.outcome.Cause.{Cause}
use Rattle.trapeze_lines.specs.Lines.{line_at}
use Rattle.wasm_ast.specs.Memory.{memory_write}
use Rattle.host_rules.specs.Guests.{Asked, Guest}
use Rattle.host_rules.specs.Rules.{Rules, IsOrdered, label_name, client_name}
use Rattle.host_rules.specs.States.{Serving, Activation}
use Rattle.host_rules.specs.Stores.{read}
use Rattle.host_rules.specs.Wishes.{Wish, Inputs, Reads, Writes, Sends, Raises, Replies, OwnLabels, Releases, wish}
use Rattle.host_rules.specs.Calls.{Nothing, AWrite, Called, Resumed, RaisedTo, Refused, resumes, written_out, copied, read_out, raised, answer_lines, granted, after_wish, shim}
use Rattle.host_rules.specs.Views.{visible}
use Rattle.host_rules.proofs.SetAt.{of_branch}
use Rattle.host_rules.proofs.Stores.{AreAlike, read_alike, fits_alike}
use Rattle.host_rules.proofs.SameToObserver.{hidden_line}

module _ {T : Type 0} (P : Rules) (M : Guest T) (c : ℕ) where
  -- lines that whoever does not see c does not see
  abbrev pub AreAt : List Line → Type 0
  AreAt lines = (o : ℕ) → P.flows c o ≡ false → visible P o lines ≡ []

  abbrev pub IsCalled : Called T → Type 0
  IsCalled (Resumed t lines effect) = AreAt lines
  IsCalled (RaisedTo l t) = P.flows c l ≡ true
  IsCalled (Refused cause) = Unit {0}

  written_at : (t : T) (memory : Option (List ℕ)) (answer : ℕ) (lines : List Line) → AreAt lines → IsCalled (written_out M t memory answer lines)
  written_at t None answer lines h = tt
  written_at t (Some memory) answer lines h = h

  copied_at : (t : T) (at cap : ℕ) (bytes : List ℕ) (lines : List Line) → AreAt lines → IsCalled (copied M t at cap bytes lines)
  copied_at t at cap bytes lines h = written_at t (memory_write (M.memory t) at (take cap bytes)) (length bytes) lines h

  read_at : (t : T) (at cap : ℕ) (value : Option (List ℕ)) (lines : List Line) → AreAt lines → IsCalled (read_out M t at cap value lines)
  read_at t at cap None lines h = h
  read_at t at cap (Some value) lines h = copied_at t at cap value lines h

  answers_at : (serves : Option Serving) (bytes : List ℕ) → AreAt (answer_lines P c serves bytes)
  answers_at None bytes o hidden = refl
  answers_at (Some x) bytes o hidden = hidden_line P o (line_at c (kind.Answer (client_name P x.client) x.id bytes)) hidden

  raised_at : IsOrdered P → (t : T) (l : ℕ) → IsCalled (raised P M c t l)
  raised_at order t l = of_branch IsCalled (P.join c l == c) (resumes M t None [] Nothing) (RaisedTo (P.join c l) (M.answer t (M.memory t) None)) (λ o hidden. refl) (order.upper c l)

  granted_at : IsOrdered P → (a : Activation T) (w : List Write) (t : T) (x : Wish) → IsCalled (granted P M c a w t x)
  granted_at order a w t (Inputs at cap) = copied_at t at cap a.input [] (λ o hidden. refl)
  granted_at order a w t (Reads key at cap) = read_at t at cap (read P c key w) (line_at c (kind.Read key (read P c key w)) ∷ []) (λ o hidden. hidden_line P o (line_at c (kind.Read key (read P c key w))) hidden)
  granted_at order a w t (Writes key value) = λ o hidden. refl
  granted_at order a w t (Sends name channel bytes) = λ o hidden. hidden_line P o (line_at c (kind.Send name bytes)) hidden
  granted_at order a w t (Raises l) = raised_at order t l
  granted_at order a w t (Replies bytes) = answers_at a.serves bytes
  granted_at order a w t (OwnLabels at cap) = copied_at t at cap (label_name P c) [] (λ o hidden. refl)
  granted_at order a w t (Releases gate bytes) = λ o hidden. refl

  after_at : (r : Result Wish Cause) (grant : Wish → Called T) → ((x : Wish) → IsCalled (grant x)) → IsCalled (after_wish r grant)
  after_at (Ok x) grant h = h x
  after_at (Err cause) grant h = tt

  pub shim_at : IsOrdered P → (a : Activation T) (w : List Write) (asked : Asked) (t : T) → IsCalled (shim P M c a w asked t)
  shim_at order a w asked t = after_at (wish P (M.memory t) asked) (granted P M c a w t) (granted_at order a w t)

  -- the same is granted over stores that are alike to an observer who sees the label
  granted_alike : IsOrdered P → (o : ℕ) → P.flows c o ≡ true → (a : Activation T) (w v : List Write) → AreAlike P o w v → (t : T) (x : Wish) → granted P M c a w t x ≡ granted P M c a v t x
  granted_alike order o seen a w v same t (Inputs at cap) = refl
  granted_alike order o seen a w v same t (Reads key at cap) = ap (λ r. read_out M t at cap r (line_at c (kind.Read key r) ∷ [])) (read_alike P o order c seen key w v same)
  granted_alike order o seen a w v same t (Writes key value) = ap (λ b. resumes M t (Some (cond b 0 1)) [] (AWrite key value)) (fits_alike P o w v (written c key value) seen same)
  granted_alike order o seen a w v same t (Sends name channel bytes) = refl
  granted_alike order o seen a w v same t (Raises l) = refl
  granted_alike order o seen a w v same t (Replies bytes) = refl
  granted_alike order o seen a w v same t (OwnLabels at cap) = refl
  granted_alike order o seen a w v same t (Releases gate bytes) = refl

  after_alike : (r : Result Wish Cause) (f g : Wish → Called T) → ((x : Wish) → f x ≡ g x) → after_wish r f ≡ after_wish r g
  after_alike (Ok x) f g h = h x
  after_alike (Err cause) f g h = refl

  pub shim_alike : IsOrdered P → (o : ℕ) → P.flows c o ≡ true → (a : Activation T) (w v : List Write) → AreAlike P o w v → (asked : Asked) (t : T) → shim P M c a w asked t ≡ shim P M c a v asked t
  shim_alike order o seen a w v same asked t = after_alike (wish P (M.memory t) asked) (granted P M c a w t) (granted P M c a v t) (granted_alike order o seen a w v same t)
