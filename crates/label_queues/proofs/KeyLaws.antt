-- What a change of one list does to the keys and to the items of the others.
use Rattle.std.proofs.Common.{◌≡◌, ℕ, zero, suc, ◌+◌, ◌-◌, ◌^◌, ◌<◌, ◌≤◌, inl, inr, ⊎_elim, List, [], ◌∷◌, ◌++◌, length, get_or, map, Bool, Result, Ok, Err, Option, Some, None, true, false, drop, take, refl, sym, ◌∙◌, ap, subst, arith}
use Rattle.std.specs.Prelude.{◌≢◌, IsSome, is_some, replicate, slice_get, slice_index_or}
use Rattle.std.proofs.Math.ListN.{set, get_or-eq_default}
use Rattle.std.proofs.lemmas.Bool.{cases_eq, cases_lt}
use Rattle.std.proofs.lemmas.List.{get_or-set_same, get_or-set_other, get_or-map, map-set, length-map, length-append, length-drop, length-take, length-replicate, get_or-replicate, set-get_or}
use Rattle.std.proofs.Math.ListN.{get_or-map as got}
use Rattle.std.proofs.lemmas.List.{get_or_read}
use Rattle.std.proofs.lemmas.Option.{slice_get-get_or}
use Rattle.label_queues.specs.declared.queues.Refused.{Refused}
use Rattle.label_queues.specs.declared.queues.Refused.TheVariants.{Full, NoMemory}
use Rattle.slab.specs.Slab.{Slab, get, Updates, with_value}
use Rattle.label_queues.specs.Lists.{Lists, list_of, limit_of, with_list}
use Rattle.label_queues.specs.Keys.{before, items_at, Lacks, AreDistinct, AreApart, AreHeld, keys_at, AreKeys, AreWithinLimits}

-- a place of the table after one list is set
at_place : (Q : List ℕ → Type 0) (keys : List (List ℕ)) (at : ℕ) (ks : List ℕ) (l : ℕ) → at < length keys
    → (l ≡ at → Q ks) → (l ≢ at → Q (keys_at keys l)) → Q (keys_at (set keys at ks) l)
at_place Q keys at ks l h here there = ⊎_elim
    (λ e. subst Q (sym (ap (λ l. get_or (set keys at ks) l []) e ∙ get_or-set_same keys at ks [] h)) (here e))
    (λ n. subst Q (sym (get_or-set_other keys at l ks [] n)) (there n))
    (cases_eq l at)

lacks_push : (k : ℕ) (xs : List ℕ) (y : ℕ) → Lacks k xs → k ≢ y → Lacks k (xs ++ y ∷ [])
lacks_push k [] y h n = (n, tt)
lacks_push k (x ∷ xs) y h n = (h.0, lacks_push k xs y h.1 n)

apart_push_right : (xs ys : List ℕ) (y : ℕ) → AreApart xs ys → Lacks y xs → AreApart xs (ys ++ y ∷ [])
apart_push_right [] ys y h l = tt
apart_push_right (x ∷ xs) ys y h l = (lacks_push x ys y h.0 (λ e. l.0 (sym e)), apart_push_right xs ys y h.1 l.1)

apart_push_left : (xs : List ℕ) (x : ℕ) (ys : List ℕ) → AreApart xs ys → Lacks x ys → AreApart (xs ++ x ∷ []) ys
apart_push_left [] x ys h l = (l, tt)
apart_push_left (y ∷ xs) x ys h l = (h.0, apart_push_left xs x ys h.1 l)

distinct_push : (xs : List ℕ) (y : ℕ) → AreDistinct xs → Lacks y xs → AreDistinct (xs ++ y ∷ [])
distinct_push [] y h l = (tt, tt)
distinct_push (x ∷ xs) y h l = (lacks_push x xs y h.0 (λ e. l.0 (sym e)), distinct_push xs y h.1 l.1)

apart_tail : (xs : List ℕ) (y : ℕ) (ys : List ℕ) → AreApart xs (y ∷ ys) → AreApart xs ys
apart_tail [] y ys h = tt
apart_tail (x ∷ xs) y ys h = (h.0.1, apart_tail xs y ys h.1)

-- a key that is apart from each of these
apart_lacks : (xs : List ℕ) (y : ℕ) (ys : List ℕ) → AreApart xs (y ∷ ys) → Lacks y xs
apart_lacks [] y ys h = tt
apart_lacks (x ∷ xs) y ys h = ((λ e. h.0.0 (sym e)), apart_lacks xs y ys h.1)

-- the table of items after one list is set, where the other lists keep their items
all_same : {A B : Type 0} (f g : A → B) (d : A) (ys : List A) → ((m : ℕ) → m < length ys → g (get_or ys m d) ≡ f (get_or ys m d)) → map g ys ≡ map f ys
all_same f g d [] k = refl
all_same f g d (y ∷ ys) k = ap (λ z. z ∷ map g ys) (k 0 (omega arith)) ∙ ap (λ zs. f y ∷ zs) (all_same f g d ys (λ m b. k (suc m) (omega arith)))

set_items : {A B : Type 0} (f g : A → B) (xs : List A) (i : ℕ) (v : B) (d : A) → ((m : ℕ) → m < length xs → m ≢ i → g (get_or xs m d) ≡ f (get_or xs m d)) → set (map g xs) i v ≡ set (map f xs) i v
set_items f g [] i v d h = refl
set_items f g (x ∷ xs) zero v d h = ap (λ ys. v ∷ ys) (all_same f g d xs (λ m b. h (suc m) (omega arith) (λ e. absurd (omega arith))))
set_items f g (x ∷ xs) (suc i) v d h = ap (λ z. z ∷ set (map g xs) i v) (h 0 (omega arith) (λ e. absurd (omega arith)))
    ∙ ap (λ zs. f x ∷ zs) (set_items f g xs i v d (λ m b n. h (suc m) (omega arith) (λ e. n (omega arith))))

-- after one list is set, none has more keys than its limit says
pub few_set : (keys : List (List ℕ)) (limits : List ℕ) (at : ℕ) (ks : List ℕ) → at < length keys → AreWithinLimits keys limits → length ks ≤ slice_index_or limits at 0 → length ks ≤ 4294967295
    → AreWithinLimits (set keys at ks) limits
few_set keys limits at ks h few within countable = record {
  within = λ l. at_place (λ xs. length xs ≤ slice_index_or limits l 0) keys at ks l h (λ e. subst (λ m. length ks ≤ slice_index_or limits m 0) (sym e) within) (λ n. few.within l);
  countable = λ l. at_place (λ xs. length xs ≤ 4294967295) keys at ks l h (λ e. countable) (λ n. few.countable l);
}

no_item : false ≡ true → ⊥
no_item e = cc

module _ {T : Type 0} where
  held_push : (s : List (Option T)) (xs : List ℕ) (y : ℕ) → AreHeld s xs → IsSome (slice_index_or s y None) → AreHeld s (xs ++ y ∷ [])
  held_push s [] y h i = (i, tt)
  held_push s (x ∷ xs) y h i = (h.0, held_push s xs y h.1 i)

  -- a key without an item stands nowhere
  vacant_lacks : (s : List (Option T)) (k : ℕ) (xs : List ℕ) → AreHeld s xs → slice_index_or s k None ≡ None → Lacks k xs
  vacant_lacks s k [] h e = tt
  vacant_lacks s k (x ∷ xs) h e = ((λ q. no_item (subst IsSome (sym (ap (λ k. slice_index_or s k None) q) ∙ e) h.0)), vacant_lacks s k xs h.1 e)

  items_length : (s : List (Option T)) (xs : List ℕ) → AreHeld s xs → length (items_at s xs) ≡ length xs
  items_length s [] h = refl
  items_length s (x ∷ xs) h = one (slice_index_or s x None) h.0 ∙ ap suc (items_length s xs h.1)
    where
      one : (o : Option T) → IsSome o → length (before o (items_at s xs)) ≡ suc (length (items_at s xs))
      one None i = absurd (no_item i)
      one (Some y) i = refl

  module _ (s t : Slab T) (key : ℕ) (slot : Option T) (u : Updates s t key slot) where
    held_kept : (xs : List ℕ) → Lacks key xs → AreHeld s.slots xs → AreHeld t.slots xs
    held_kept [] l h = tt
    held_kept (x ∷ xs) l h = (subst IsSome (sym (u.others x (λ e. l.0 (sym e)))) h.0, held_kept xs l.1 h.1)

    items_kept : (xs : List ℕ) → Lacks key xs → items_at t.slots xs ≡ items_at s.slots xs
    items_kept [] l = refl
    items_kept (x ∷ xs) l = ap (λ o. before o (items_at t.slots xs)) (u.others x (λ e. l.0 (sym e))) ∙ ap (before (get s x)) (items_kept xs l.1)

  items_push : (t : List (Option T)) (xs : List ℕ) (key : ℕ) (x : T) → slice_index_or t key None ≡ Some x → items_at t (xs ++ key ∷ []) ≡ items_at t xs ++ x ∷ []
  items_push t [] key x e = ap (λ o. before o []) e
  items_push t (y ∷ xs) key x e = ap (before (slice_index_or t y None)) (items_push t xs key x e) ∙ over (slice_index_or t y None)
    where
      over : (o : Option T) → before o (items_at t xs ++ x ∷ []) ≡ before o (items_at t xs) ++ x ∷ []
      over None = refl
      over (Some z) = refl

  -- an item more at the back of a list, under a key that was vacant
  pub arrived : (s t : Slab T) (keys : List (List ℕ)) (at key : ℕ) (x : T) → AreKeys s.slots keys → at < length keys → get s key ≡ None → Updates s t key (Some x)
      → AreKeys t.slots (set keys at (keys_at keys at ++ key ∷ []))
  arrived s t keys at key x sound h vacant u = record {
    held = λ l. at_place (AreHeld t.slots) keys at _ l h
        (λ e. held_push t.slots (keys_at keys at) key (kept at) (subst IsSome (sym u.changed) refl))
        (λ n. kept l);
    distinct = λ l. at_place AreDistinct keys at _ l h (λ e. distinct_push (keys_at keys at) key (sound.distinct at) (lacks at)) (λ n. sound.distinct l);
    apart = λ l m n. at_place (λ ks. AreApart ks (keys_at (set keys at new) m)) keys at new l h
        (λ e. at_place (λ ks. AreApart new ks) keys at new m h
        (λ f. absurd (n (e ∙ sym f)))
        (λ f. apart_push_left (keys_at keys at) key (keys_at keys m) (sound.apart at m (λ g. n (e ∙ g))) (lacks m)))
        (λ e. at_place (λ ks. AreApart (keys_at keys l) ks) keys at new m h
        (λ f. apart_push_right (keys_at keys l) (keys_at keys at) key (sound.apart l at e) (lacks l))
        (λ f. sound.apart l m n));
  }
    where
      new : List ℕ
      new = keys_at keys at ++ key ∷ []

      lacks : (l : ℕ) → Lacks key (keys_at keys l)
      lacks l = vacant_lacks s.slots key (keys_at keys l) (sound.held l) vacant

      kept : (l : ℕ) → AreHeld t.slots (keys_at keys l)
      kept l = held_kept s t key (Some x) u (keys_at keys l) (lacks l) (sound.held l)

  pub arrived_items : (s t : Slab T) (keys : List (List ℕ)) (at key : ℕ) (x : T) → AreKeys s.slots keys → get s key ≡ None → Updates s t key (Some x)
      → set (map (items_at t.slots) keys) at (items_at t.slots (keys_at keys at ++ key ∷ [])) ≡ set (map (items_at s.slots) keys) at (items_at s.slots (keys_at keys at) ++ x ∷ [])
  arrived_items s t keys at key x sound vacant u =
      ap (λ v. set (map (items_at t.slots) keys) at v) (items_push t.slots (keys_at keys at) key x u.changed ∙ ap (λ v. v ++ x ∷ []) (kept at))
      ∙ set_items (items_at s.slots) (items_at t.slots) keys at (items_at s.slots (keys_at keys at) ++ x ∷ []) [] (λ m b n. kept m)
    where
      kept : (l : ℕ) → items_at t.slots (keys_at keys l) ≡ items_at s.slots (keys_at keys l)
      kept l = items_kept s t key (Some x) u (keys_at keys l) (vacant_lacks s.slots key (keys_at keys l) (sound.held l) vacant)

  -- the front of a list leaves
  module _ (s t : Slab T) (keys : List (List ℕ)) (at key : ℕ) (ks : List ℕ) (e : keys_at keys at ≡ key ∷ ks) (sound : AreKeys s.slots keys) where
    lacks_front : (l : ℕ) → l ≢ at → Lacks key (keys_at keys l)
    lacks_front l n = apart_lacks (keys_at keys l) key ks (subst (AreApart (keys_at keys l)) e (sound.apart l at n))

    distinct_front : AreDistinct (key ∷ ks)
    distinct_front = subst AreDistinct e (sound.distinct at)

    held_front : AreHeld s.slots (key ∷ ks)
    held_front = subst (AreHeld s.slots) e (sound.held at)

    pub left : at < length keys → Updates s t key None → AreKeys t.slots (set keys at ks)
    left h u = record {
      held = λ l. at_place (AreHeld t.slots) keys at ks l h
          (λ f. held_kept s t key None u ks distinct_front.0 held_front.1)
          (λ n. held_kept s t key None u (keys_at keys l) (lacks_front l n) (sound.held l));
      distinct = λ l. at_place AreDistinct keys at ks l h (λ f. distinct_front.1) (λ n. sound.distinct l);
      apart = λ l m n. at_place (λ xs. AreApart xs (keys_at (set keys at ks) m)) keys at ks l h
          (λ f. at_place (λ ys. AreApart ks ys) keys at ks m h
          (λ g. absurd (n (f ∙ sym g)))
          (λ g. (subst (λ xs. AreApart xs (keys_at keys m)) e (sound.apart at m (λ i. g (sym i)))).1))
          (λ f. at_place (λ ys. AreApart (keys_at keys l) ys) keys at ks m h
          (λ g. apart_tail (keys_at keys l) key ks (subst (AreApart (keys_at keys l)) e (sound.apart l at f)))
          (λ g. sound.apart l m n));
    }

    pub left_items : Updates s t key None → set (map (items_at t.slots) keys) at (items_at t.slots ks) ≡ set (map (items_at s.slots) keys) at (items_at s.slots ks)
    left_items u = ap (λ v. set (map (items_at t.slots) keys) at v) (items_kept s t key None u ks distinct_front.0)
        ∙ set_items (items_at s.slots) (items_at t.slots) keys at (items_at s.slots ks) [] (λ m b n. items_kept s t key None u (keys_at keys m) (lacks_front m n))

    -- the front of a list goes to its back
    pub rotated : at < length keys → AreKeys s.slots (set keys at (ks ++ key ∷ []))
    rotated h = record {
      held = λ l. at_place (AreHeld s.slots) keys at _ l h (λ f. held_push s.slots ks key held_front.1 held_front.0) (λ n. sound.held l);
      distinct = λ l. at_place AreDistinct keys at _ l h (λ f. distinct_push ks key distinct_front.1 distinct_front.0) (λ n. sound.distinct l);
      apart = λ l m n. at_place (λ xs. AreApart xs (keys_at (set keys at (ks ++ key ∷ [])) m)) keys at _ l h
          (λ f. at_place (λ ys. AreApart (ks ++ key ∷ []) ys) keys at _ m h
          (λ g. absurd (n (f ∙ sym g)))
          (λ g. let a = subst (λ xs. AreApart xs (keys_at keys m)) e (sound.apart at m (λ i. g (sym i))) in apart_push_left ks key (keys_at keys m) a.1 a.0))
          (λ f. at_place (λ ys. AreApart (keys_at keys l) ys) keys at _ m h
          (λ g. let a = subst (AreApart (keys_at keys l)) e (sound.apart l at f) in apart_push_right (keys_at keys l) ks key (apart_tail (keys_at keys l) key ks a) (apart_lacks (keys_at keys l) key ks a))
          (λ g. sound.apart l m n));
    }

front_is : (xs : List ℕ) (k : ℕ) → slice_get xs 0 ≡ Some k → xs ≡ k ∷ drop 1 xs
front_is [] k e = absurd (no_item (ap is_some e))
front_is (x ∷ xs) k e = let f : x ≡ k = cc in ap (λ x. x ∷ xs) f

some_front : (xs : List ℕ) → 0 < length xs → (k : ℕ) × (xs ≡ k ∷ drop 1 xs)
some_front [] h = absurd (omega arith)
some_front (x ∷ xs) h = (x, refl)

some_item : {T : Type 0} (o : Option T) → IsSome o → (x : T) × (o ≡ Some x)
some_item None i = absurd (no_item i)
some_item (Some x) i = (x, refl)

module _ {T : Type 0} where
  items_front : (s : List (Option T)) (key : ℕ) (ks : List ℕ) → IsSome (slice_index_or s key None) → (x : T) × (slice_index_or s key None ≡ Some x) × (items_at s (key ∷ ks) ≡ x ∷ items_at s ks)
  items_front s key ks i = let o = some_item (slice_index_or s key None) i in (o.0, o.1, ap (λ o. before o (items_at s ks)) o.1)

  module _ (s : Slab T) (keys : List (List ℕ)) (at key : ℕ) (e : keys_at keys at ≡ key ∷ drop 1 (keys_at keys at)) (sound : AreKeys s.slots keys) where
    held_key : IsSome (get s key)
    held_key = (subst (AreHeld s.slots) e (sound.held at)).0

    dropped : drop 1 (items_at s.slots (keys_at keys at)) ≡ items_at s.slots (drop 1 (keys_at keys at))
    dropped = let f = items_front s.slots key (drop 1 (keys_at keys at)) held_key in ap (λ ks. drop 1 (items_at s.slots ks)) e ∙ ap (drop 1) f.2

    turned : items_at s.slots (drop 1 (keys_at keys at) ++ key ∷ []) ≡ drop 1 (items_at s.slots (keys_at keys at)) ++ take 1 (items_at s.slots (keys_at keys at))
    turned = let f = items_front s.slots key (drop 1 (keys_at keys at)) held_key in
        items_push s.slots (drop 1 (keys_at keys at)) key f.0 f.1
        ∙ sym (ap (λ ys. drop 1 ys ++ take 1 ys) (ap (items_at s.slots) e ∙ f.2))

  held_still : (s t : Slab T) (key : ℕ) (x : T) → Updates s t key (Some x) → (ks : List ℕ) → AreHeld s.slots ks → AreHeld t.slots ks
  held_still s t key x u [] h = tt
  held_still s t key x u (k ∷ ks) h = (⊎_elim (λ f. subst IsSome (sym (ap (get t) f ∙ u.changed)) refl) (λ n. subst IsSome (sym (u.others k n)) h.0) (cases_eq k key), held_still s t key x u ks h.1)

  replaced_items : (s t : Slab T) (keys : List (List ℕ)) (at key : ℕ) (x : T) (e : keys_at keys at ≡ key ∷ drop 1 (keys_at keys at)) (sound : AreKeys s.slots keys) → Updates s t key (Some x)
      → set (map (items_at t.slots) keys) at (items_at t.slots (keys_at keys at)) ≡ set (map (items_at s.slots) keys) at (set (items_at s.slots (keys_at keys at)) 0 x)
  replaced_items s t keys at key x e sound u =
      let ks = drop 1 (keys_at keys at) in
      let f = items_front s.slots key ks (held_key s keys at key e sound) in
      let now : items_at t.slots (keys_at keys at) ≡ set (items_at s.slots (keys_at keys at)) 0 x =
      ap (items_at t.slots) e ∙ ap (λ o. before o (items_at t.slots ks)) u.changed
      ∙ ap (λ ys. x ∷ ys) (items_kept s t key (Some x) u ks (distinct_front s s keys at key ks e sound).0)
      ∙ sym (ap (λ ys. set ys 0 x) (ap (items_at s.slots) e ∙ f.2)) in
      ap (λ v. set (map (items_at t.slots) keys) at v) now
      ∙ set_items (items_at s.slots) (items_at t.slots) keys at (set (items_at s.slots (keys_at keys at)) 0 x) [] (λ m b n. items_kept s t key (Some x) u (keys_at keys m) (lacks_front s s keys at key ks e sound m n))

-- a place of a list behind a view of each item
pub set_place : {A B : Type 0} (f : A → B) (xs : List A) (i : ℕ) (x y : A) (e : B) (F : B → B) (ys : List B) → map f xs ≡ ys → i < length ys → x ≡ get_or xs i x → f y ≡ F (f x)
    → map f (set xs i y) ≡ set ys i (F (get_or ys i e))
set_place {A} {B} f xs i x y e F ys v h r k = subst (λ ys. map f (set xs i y) ≡ set ys i (F (get_or ys i e))) v
    (map-set f xs i y ∙ ap (λ z. set (map f xs) i z) (k ∙ ap F (ap f r ∙ sym (get_or-map f xs i x e within))))
  where
    within : i < length xs
    within = omega (arith, length-map xs f, ap length v)

module _ {T : Type 0} (s : Slab T) (keys : List (List ℕ)) (limits : List ℕ) (q : Lists T) (v : record { lists = map (items_at s.slots) keys; limits = limits } ≡ q) (at : ℕ) where
  labels : length q.lists ≡ length keys
  labels = sym (ap (λ q. length q.lists) v) ∙ length-map keys (items_at s.slots)

  here : list_of q at ≡ items_at s.slots (keys_at keys at)
  here = sym (ap (λ q. list_of q at) v) ∙ got (items_at s.slots) keys at []

  pub counted : AreKeys s.slots keys → length (list_of q at) ≡ length (keys_at keys at)
  counted sound = ap length here ∙ items_length s.slots (keys_at keys at) (sound.held at)

  pub same_limits : q.limits ≡ limits
  same_limits = sym (ap (λ q. q.limits) v)

  pub in_lists : length keys ≡ length limits → at < length q.limits → at < length q.lists
  in_lists e h = let same = same_limits in omega (arith, h, e, labels, ap length same)

  pub place_within : length keys ≡ length limits → at < length q.limits → (place : ℕ) → place ≡ at → place < length keys
  place_within e h place p = let same = same_limits in omega (arith, h, e, p, ap length same)

  pub few_here : AreKeys s.slots keys → AreWithinLimits keys limits → length (list_of q at) ≤ limit_of q at
  few_here sound few =
      let e : limit_of q at ≡ slice_index_or limits at 0 = ap (λ ls. get_or ls at 0) same_limits in
      omega (arith, counted sound, few.within at, e)

  -- the lists after one is set
  module _ (t : Slab T) (new : List (List ℕ)) (ks : List ℕ) (xs : List T) (n : new ≡ set keys at ks) where
    pub set_list : set (map (items_at t.slots) keys) at (items_at t.slots ks) ≡ set (map (items_at s.slots) keys) at xs
        → record { lists = map (items_at t.slots) new; limits = limits } ≡ with_list q at xs
    set_list e = ap (λ (new : List (List ℕ)). record { lists = map (items_at t.slots) new; limits = limits }) n
        ∙ ap (λ (ls : List (List T)). record { lists = ls; limits = limits }) (map-set (items_at t.slots) keys at ks ∙ e)
        ∙ ap (λ (q : Lists T). with_list q at xs) v

  -- an arrival, by what the code does: room in the slab, the key that is next, and the item under it
  module _ (sound : AreKeys s.slots keys) (r t : Slab T) (reserved : r ≡ record s { capacity = r.capacity }) (new : List (List ℕ)) (place : ℕ) (p : place ≡ at) (h : at < length q.lists)
      (key got : ℕ) (g : got ≡ key) (x : T) (vacant : get r key ≡ None) (u : Updates r t got (Some x)) (n : new ≡ set keys place (keys_at keys place ++ key ∷ [])) where
    vacant_before : get s key ≡ None
    vacant_before = subst (λ (r : Slab T). get r key ≡ None) reserved vacant

    put : Updates s t key (Some x)
    put = subst (λ k. Updates s t k (Some x)) g (record { changed = u.changed; others = λ k d. u.others k d ∙ ap (λ (r : Slab T). get r k) reserved })

    set_here : new ≡ set keys at (keys_at keys at ++ key ∷ [])
    set_here = subst (λ p. new ≡ set keys p (keys_at keys p ++ key ∷ [])) p n

    pub arrived_keys : AreKeys t.slots new
    arrived_keys = subst (AreKeys t.slots) (sym set_here) (arrived s t keys at key x sound (omega (arith, h, labels)) vacant_before put)

    pub arrived_view : record { lists = map (items_at t.slots) new; limits = limits } ≡ with_list q at (list_of q at ++ x ∷ [])
    arrived_view = set_list t new (keys_at keys at ++ key ∷ []) (list_of q at ++ x ∷ []) set_here
        (arrived_items s t keys at key x sound vacant_before put ∙ ap (λ ys. set (map (items_at s.slots) keys) at (ys ++ x ∷ [])) (sym here))

  -- the front leaves
  module _ (sound : AreKeys s.slots keys) (t : Slab T) (new : List (List ℕ)) (place : ℕ) (p : place ≡ at) (h : at < length q.lists)
      (key : ℕ) (first : slice_get (keys_at keys place) 0 ≡ Some key) (u : Updates s t key None) (n : new ≡ set keys place (drop 1 (keys_at keys place))) where
    is_front : keys_at keys at ≡ key ∷ drop 1 (keys_at keys at)
    is_front = front_is (keys_at keys at) key (subst (λ p. slice_get (keys_at keys p) 0 ≡ Some key) p first)

    set_drop : new ≡ set keys at (drop 1 (keys_at keys at))
    set_drop = subst (λ p. new ≡ set keys p (drop 1 (keys_at keys p))) p n

    pub left_keys : AreKeys t.slots new
    left_keys = subst (AreKeys t.slots) (sym set_drop) (left s t keys at key (drop 1 (keys_at keys at)) is_front sound (omega (arith, h, labels)) u)

    pub left_view : record { lists = map (items_at t.slots) new; limits = limits } ≡ with_list q at (drop 1 (list_of q at))
    left_view = set_list t new (drop 1 (keys_at keys at)) (drop 1 (list_of q at)) set_drop
        (left_items s t keys at key (drop 1 (keys_at keys at)) is_front sound u
        ∙ ap (λ ys. set (map (items_at s.slots) keys) at ys) (sym (ap (drop 1) here ∙ dropped s keys at key is_front sound)))

  -- the front goes to the back
  module _ (sound : AreKeys s.slots keys) (new : List (List ℕ)) (place : ℕ) (p : place ≡ at) (h : at < length q.lists) (some : 0 < length (list_of q at))
      (n : new ≡ set keys place (drop 1 (keys_at keys place) ++ take 1 (keys_at keys place))) where
    a_front : (key : ℕ) × (keys_at keys at ≡ key ∷ drop 1 (keys_at keys at))
    a_front = some_front (keys_at keys at) (omega (arith, some, counted sound))

    set_turned : new ≡ set keys at (drop 1 (keys_at keys at) ++ a_front.0 ∷ [])
    set_turned = subst (λ p. new ≡ set keys p (drop 1 (keys_at keys p) ++ take 1 (keys_at keys p))) p n
        ∙ ap (λ ks. set keys at (drop 1 (keys_at keys at) ++ ks)) (ap (take 1) a_front.1)

    pub rotated_keys : AreKeys s.slots new
    rotated_keys = subst (AreKeys s.slots) (sym set_turned) (rotated s s keys at a_front.0 (drop 1 (keys_at keys at)) a_front.1 sound (omega (arith, h, labels)))

    pub rotated_view : record { lists = map (items_at s.slots) new; limits = limits } ≡ with_list q at (drop 1 (list_of q at) ++ take 1 (list_of q at))
    rotated_view = set_list s new (drop 1 (keys_at keys at) ++ a_front.0 ∷ []) (drop 1 (list_of q at) ++ take 1 (list_of q at)) set_turned
        (ap (λ ys. set (map (items_at s.slots) keys) at ys)
        (turned s keys at a_front.0 a_front.1 sound ∙ ap (λ ys. drop 1 ys ++ take 1 ys) (sym here)))

  -- another item stands under the front's key
  module _ (sound : AreKeys s.slots keys) (m t : Slab T) (place : ℕ) (p : place ≡ at) (h : at < length q.lists)
      (key got : ℕ) (g : got ≡ key) (x : T) (first : slice_get (keys_at keys place) 0 ≡ Some key) (out : Updates s m key None) (u : Updates m t got (Some x)) where
    swapped : Updates s t key (Some x)
    swapped = record {
      changed = subst (λ k. get t k ≡ Some x) g u.changed;
      others = λ k d. u.others k (λ e. d (e ∙ g)) ∙ out.others k d;
    }

    at_front : keys_at keys at ≡ key ∷ drop 1 (keys_at keys at)
    at_front = front_is (keys_at keys at) key (subst (λ p. slice_get (keys_at keys p) 0 ≡ Some key) p first)

    pub replaced_keys : AreKeys t.slots keys
    replaced_keys = record { held = λ l. held_still s t key x swapped (keys_at keys l) (sound.held l); distinct = sound.distinct; apart = sound.apart }

    pub replaced_view : record { lists = map (items_at t.slots) keys; limits = limits } ≡ with_list q at (set (list_of q at) 0 x)
    replaced_view = set_list t keys (keys_at keys at) (set (list_of q at) 0 x) (sym (set-get_or keys at []))
        (replaced_items s t keys at key x at_front sound swapped ∙ ap (λ ys. set (map (items_at s.slots) keys) at (set ys 0 x)) (sym here))

-- the front of a list that has this front
module _ {T : Type 0} (s : Slab T) (keys : List (List ℕ)) (sound : AreKeys s.slots keys) (place : ℕ) where
  pub front_held : (key : ℕ) → slice_get (keys_at keys place) 0 ≡ Some key → IsSome (get s key)
  front_held key first = (subst (AreHeld s.slots) (front_is (keys_at keys place) key first) (sound.held place)).0

module _ {T : Type 0} (s : Slab T) (keys : List (List ℕ)) (limits : List ℕ) (q : Lists T) (v : record { lists = map (items_at s.slots) keys; limits = limits } ≡ q) (at : ℕ) (sound : AreKeys s.slots keys)
    (place : ℕ) (p : place ≡ at) (h : at < length q.lists) where
  -- the label's limit as the code reads it
  pub limit_here : length keys ≡ length limits → (n : ℕ) → n ≡ get_or limits place n → limit_of q at ≡ n
  limit_here long n e = ap (λ ls. get_or ls at 0) (same_limits s keys limits q v at) ∙ ap (λ i. get_or limits i 0) (sym p)
      ∙ sym (get_or_read limits place n (omega (arith, p, h, long, labels s keys limits q v at)) e 0)

  pub long_here : length (list_of q at) ≡ length (keys_at keys place)
  long_here = counted s keys limits q v at sound ∙ ap (λ p. length (keys_at keys p)) (sym p)

  -- the front of the label's list
  pub front_view : (key : ℕ) (x : T) → slice_get (keys_at keys place) 0 ≡ Some key → get s key ≡ Some x → slice_get (list_of q at) 0 ≡ Some x
  front_view key x first e =
      let f = front_is (keys_at keys at) key (subst (λ p. slice_get (keys_at keys p) 0 ≡ Some key) p first) in
      ap (λ ys. slice_get ys 0) (here s keys limits q v at ∙ ap (items_at s.slots) f ∙ ap (λ o. before o (items_at s.slots (drop 1 (keys_at keys at)))) e)

  pub not_empty : slice_get (keys_at keys place) 0 ≡ None → 0 < length (list_of q at) → ⊥
  not_empty e some = no_item (ap is_some (sym e ∙ slice_get-get_or (keys_at keys place) 0 0 (omega (arith, some, long_here))))

-- the limits are kept by each change
module _ (keys : List (List ℕ)) (limits : List ℕ) (few : AreWithinLimits keys limits) (new : List (List ℕ)) (place : ℕ) (h : place < length keys) where
  pub few_arrived : (key n len : ℕ) → n ≡ get_or limits place n → length keys ≡ length limits → len ≡ length (keys_at keys place) → len < n → n < 2 ^ 32
      → new ≡ set keys place (keys_at keys place ++ key ∷ []) → AreWithinLimits new limits
  few_arrived key n len e long l lt small is =
      let here : n ≡ get_or limits place 0 = get_or_read limits place n (omega (arith, h, long)) e 0 in
      let more : length (keys_at keys place ++ key ∷ []) ≡ len + 1 = simp length-append (omega (arith, l)) in
      subst (λ ks. AreWithinLimits ks limits) (sym is) (few_set keys limits place (keys_at keys place ++ key ∷ []) h few (omega (arith, here, more, lt)) (omega (arith, more, lt, small)))

  pub few_rotated : new ≡ set keys place (drop 1 (keys_at keys place) ++ take 1 (keys_at keys place)) → AreWithinLimits new limits
  few_rotated is =
      let same : length (drop 1 (keys_at keys place) ++ take 1 (keys_at keys place)) ≡ length (keys_at keys place) =
      simp (length-append, length-drop, length-take) (omega arith) in
      subst (λ ks. AreWithinLimits ks limits) (sym is) (few_set keys limits place (drop 1 (keys_at keys place) ++ take 1 (keys_at keys place)) h few (omega (arith, same, few.within place)) (omega (arith, same, few.countable place)))

  pub few_left : new ≡ set keys place (drop 1 (keys_at keys place)) → AreWithinLimits new limits
  few_left is =
      let less : length (drop 1 (keys_at keys place)) ≡ length (keys_at keys place) - 1 = length-drop 1 (keys_at keys place) in
      subst (λ ks. AreWithinLimits ks limits) (sym is) (few_set keys limits place (drop 1 (keys_at keys place)) h few (omega (arith, less, few.within place)) (omega (arith, less, few.countable place)))

-- lists without keys
none_at : (n l : ℕ) → keys_at (replicate n []) l ≡ []
none_at n l = elim (cases_lt l n) [
  | inl within ↦ get_or-replicate n l [] [] within
  | inr past ↦ get_or-eq_default (replicate n []) [] (let long : length (replicate {A = List ℕ} n []) ≤ l = omega (arith, past, length-replicate {A = List ℕ} n []) in long)
]

pub no_keys : {T : Type 0} (s : List (Option T)) (n : ℕ) → AreKeys s (replicate n [])
no_keys s n = record {
  held = λ l. subst (AreHeld s) (sym (none_at n l)) tt;
  distinct = λ l. subst AreDistinct (sym (none_at n l)) tt;
  apart = λ l m k. subst (λ xs. AreApart xs (keys_at (replicate n []) m)) (sym (none_at n l)) tt;
}

pub few_none : (n : ℕ) (limits : List ℕ) → AreWithinLimits (replicate n []) limits
few_none n limits = record {
  within = λ l. subst (λ xs. length xs ≤ slice_index_or limits l 0) (sym (none_at n l)) (omega arith);
  countable = λ l. subst (λ xs. length xs ≤ 4294967295) (sym (none_at n l)) (omega arith);
}

pub no_items : {T : Type 0} (s : List (Option T)) (n : ℕ) → map (items_at s) (replicate n []) ≡ replicate n []
no_items s zero = refl
no_items s (suc n) = ap (λ xs. [] ∷ xs) (no_items s n)

pub many : (n : ℕ) → length (replicate {A = List ℕ} n []) ≡ n
many n = length-replicate {A = List ℕ} n []

-- out of memory is not a full list
module _ {T : Type 0} where
  abbrev is_full : Result (Unit {0}) (T × Refused) → Bool
  is_full (Ok x) = false
  is_full (Err e) = fills e.1
    where
      fills : Refused → Bool
      fills Full = true
      fills NoMemory = false

  abbrev refused : T → Refused → Result (Unit {0}) (T × Refused)
  refused x r = Err (x, r)

  pub not_full : (x y : T) → refused x NoMemory ≡ refused y Full → ⊥
  not_full x y e = no_item (ap is_full e)

in_range : {T : Type 0} (xs : List (Option T)) (k : ℕ) → IsSome (slice_index_or xs k None) → k < length xs
in_range [] k h = absurd (no_item h)
in_range (x ∷ xs) zero h = omega arith
in_range (x ∷ xs) (suc k) h = let i : k < length xs = in_range xs k h in omega (arith, i)

-- a write through a reference to the front
module _ {T : Type 0} (s : Slab T) (keys : List (List ℕ)) (limits : List ℕ) (at place : ℕ) (p : place ≡ at) (sound : AreKeys s.slots keys) (key : ℕ) (first : slice_get (keys_at keys place) 0 ≡ Some key) where
  has_front : keys_at keys at ≡ key ∷ drop 1 (keys_at keys at)
  has_front = front_is (keys_at keys at) key (subst (λ p. slice_get (keys_at keys p) 0 ≡ Some key) p first)

  has_item : IsSome (get s key)
  has_item = held_key s keys at key has_front sound

  wrote : (w : T) → Updates s (with_value s key w) key (Some w)
  wrote w = record {
    changed = get_or-set_same s.slots key (Some w) None (in_range s.slots key has_item);
    others = λ k n. get_or-set_other s.slots key k (Some w) None n;
  }

  pub lent_keys : (w : T) → AreKeys (set s.slots key (Some w)) keys
  lent_keys w = record { held = λ l. held_still s (with_value s key w) key w (wrote w) (keys_at keys l) (sound.held l); distinct = sound.distinct; apart = sound.apart }

  abbrev seen : Lists T
  seen = record { lists = map (items_at s.slots) keys; limits = limits }

  pub lent_view : (w : T) → record { lists = map (items_at (set s.slots key (Some w))) keys; limits = limits } ≡ with_list seen at (set (list_of seen at) 0 w)
  lent_view w = set_list s keys limits seen refl at (with_value s key w) keys (keys_at keys at) (set (list_of seen at) 0 w) (sym (set-get_or keys at []))
      (replaced_items s (with_value s key w) keys at key w has_front sound (wrote w) ∙ ap (λ ys. set (map (items_at s.slots) keys) at (set ys 0 w)) (sym (here s keys limits seen refl at)))

  pub lent_value : get s key ≡ slice_get (list_of seen at) 0
  lent_value = let o = some_item (get s key) has_item in
      o.1 ∙ sym (ap (λ ys. slice_get ys 0) (here s keys limits seen refl at ∙ ap (items_at s.slots) has_front ∙ ap (λ o. before o (items_at s.slots (drop 1 (keys_at keys at)))) o.1))
