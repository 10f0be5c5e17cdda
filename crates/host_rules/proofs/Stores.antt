-- Stores of which an observer sees the same.
use Rattle.std.proofs.Common.{◌≡◌, ℕ, Bool, true, false, cond, List, [], ◌∷◌, ◌++◌, map, None, refl, sym, ◌∙◌, ap}
use Rattle.std.specs.Prelude.{filter, ◌==◌, ◌&&◌, nat_eq, slice_get}
use Rattle.std.specs.Cmp.Lexicographic.{pointwise}
use Rattle.std.proofs.lemmas.Bool.Decides.{Decides-eqb}
use Rattle.std.proofs.lemmas.List.{append-nil}
use Rattle.std.proofs.lemmas.List.Elements.{filter-append}
use Rattle.facet_list.specs.Store.{Write, Facet, facets, last_value}
use Rattle.facet_list.specs.Rows.{rows_of, rows_after, row_of, read_row, facets_in}
use Rattle.facet_list.specs.Room.{are_within, live}
use Rattle.facet_list.specs.Views.{visible_facets}
use Rattle.facet_list.proofs.RowLaws.{rows_of-push, read_rows_of}
use Rattle.facet_list.proofs.RowFacets.{facets_in_of}
use Rattle.facet_list.proofs.Slots.{noninterfering}
use Rattle.host_rules.specs.Rules.{Rules, IsOrdered}
use Rattle.host_rules.specs.Stores.{read, fits, facet_line, facet_lines}
use Rattle.host_rules.specs.Views.{visible_writes, HaveSameRows, visible}
use Rattle.host_rules.proofs.FilteredLists.{kept_by_both}

-- writes with the same rows have the same facets
facets_same : (w v : List Write) → HaveSameRows w v → facets w ≡ facets v
facets_same w v same = sym (facets_in_of w) ∙ ap facets_in same ∙ facets_in_of v

module _ (P : Rules) (o : ℕ) where
  -- the visible writes of both have the same rows
  abbrev pub AreAlike : List Write → List Write → Type 0
  AreAlike w v = HaveSameRows (visible_writes P o w) (visible_writes P o v)

  -- one more write
  visible_push : (w : List Write) (x : Write) (b : Bool) → P.flows x.label o ≡ b → visible_writes P o (w ++ x ∷ []) ≡ cond b (visible_writes P o w ++ x ∷ []) (visible_writes P o w)
  visible_push w x b e = filter-append (λ (y : Write). P.flows y.label o) w (x ∷ []) ∙ ap (λ c. visible_writes P o w ++ cond c (x ∷ []) []) e
      ∙ elim b as (λ b. visible_writes P o w ++ cond b (x ∷ []) [] ≡ cond b (visible_writes P o w ++ x ∷ []) (visible_writes P o w)) [ true ↦ refl | false ↦ append-nil (visible_writes P o w) ]

  pub hidden_push : (w : List Write) (x : Write) → P.flows x.label o ≡ false → AreAlike (w ++ x ∷ []) w
  hidden_push w x hidden = ap rows_of (visible_push w x false hidden)

  -- one more write on both sides
  rows_push : (w v : List Write) (x : Write) → HaveSameRows w v → HaveSameRows (w ++ x ∷ []) (v ++ x ∷ [])
  rows_push w v x same = rows_of-push w x ∙ ap (λ rows. rows_after rows x) same ∙ sym (rows_of-push v x)

  pub seen_push : (w v : List Write) (x : Write) → P.flows x.label o ≡ true → AreAlike w v → AreAlike (w ++ x ∷ []) (v ++ x ∷ [])
  seen_push w v x seen same =
      ap rows_of (visible_push w x true seen) ∙ rows_push (visible_writes P o w) (visible_writes P o v) x same ∙ sym (ap rows_of (visible_push v x true seen))

  -- what is read at a visible label
  read_visible : IsOrdered P → (c : ℕ) → P.flows c o ≡ true → (key : List ℕ) (w : List Write) → read P c key (visible_writes P o w) ≡ read P c key w
  read_visible order c seen key w = ap (λ xs. last_value None (map (λ x. x.value) xs))
      (kept_by_both (λ (x : Write). P.flows x.label o) (λ (x : Write). pointwise nat_eq key x.key && P.flows x.label c)
      (λ x e. order.transitive x.label c o (second (pointwise nat_eq key x.key) (P.flows x.label c) e) seen) w)
    where
      second : (a b : Bool) → (a && b) ≡ true → b ≡ true
      second true b h = h
      second false b h = cc

  pub read_alike : IsOrdered P → (c : ℕ) → P.flows c o ≡ true → (key : List ℕ) (w v : List Write) → AreAlike w v → read P c key w ≡ read P c key v
  read_alike order c seen key w v same =
      sym (read_visible order c seen key w)
      ∙ sym (read_rows_of P.flows c key (visible_writes P o w))
      ∙ ap (λ rows. read_row P.flows c (row_of rows key)) same
      ∙ read_rows_of P.flows c key (visible_writes P o v)
      ∙ read_visible order c seen key v

  -- what fits at a visible label
  live_visible : (l : ℕ) → P.flows l o ≡ true → (w : List Write) → live l (visible_writes P o w) ≡ live l w
  live_visible l seen w = ap (filter (λ f. f.0.1 == l)) (sym (noninterfering P.flows o w))
      ∙ kept_by_both (λ (f : Facet). P.flows f.0.1 o) (λ (f : Facet). f.0.1 == l) (λ f e. ap (λ k. P.flows k o) ((Decides-eqb f.0.1 l).0 e) ∙ seen) (facets w)

  pub fits_alike : (w v : List Write) (x : Write) → P.flows x.label o ≡ true → AreAlike w v → fits P w x ≡ fits P v x
  fits_alike w v x seen same =
      ap (are_within (slice_get P.limits x.label))
      (sym (live_visible x.label seen (w ++ x ∷ []))
      ∙ ap (filter (λ f. f.0.1 == x.label)) (facets_same (visible_writes P o (w ++ x ∷ [])) (visible_writes P o (v ++ x ∷ [])) (seen_push w v x seen same))
      ∙ live_visible x.label seen (v ++ x ∷ []))

  -- the facets in the end
  visible_lines : (fs : List Facet) → visible P o (map facet_line fs) ≡ map facet_line (visible_facets P.flows o fs)
  visible_lines [] = refl
  visible_lines (f ∷ fs) =
      elim (P.flows f.0.1 o) as (λ b. cond b (facet_line f ∷ visible P o (map facet_line fs)) (visible P o (map facet_line fs)) ≡ map facet_line (cond b (f ∷ visible_facets P.flows o fs) (visible_facets P.flows o fs))) [
        | true ↦ ap (λ ls. facet_line f ∷ ls) (visible_lines fs)
        | false ↦ visible_lines fs
      ]

  pub facets_alike : (w v : List Write) → AreAlike w v → visible P o (facet_lines w) ≡ visible P o (facet_lines v)
  facets_alike w v same =
      visible_lines (facets w) ∙ ap (map facet_line) (noninterfering P.flows o w ∙ facets_same (visible_writes P o w) (visible_writes P o v) same ∙ sym (noninterfering P.flows o v))
      ∙ sym (visible_lines (facets v))
