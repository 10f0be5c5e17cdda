-- States that are the same to an observer, and moves after which he has seen the same.
use Rattle.std.proofs.Common.{◌≡◌, ℕ, Bool, true, false, cond, List, [], ◌∷◌, ◌++◌, Contains, refl, sym, ◌∙◌, ap, subst}
use Rattle.std.proofs.lemmas.List.{append_assoc}
use Rattle.std.proofs.lemmas.List.Elements.{filter-append}
use Rattle.trapeze_lines.specs.declared.line.Line.{Line}
use Rattle.host_rules.specs.Guests.{Guest}
use Rattle.host_rules.specs.Rules.{Rules, IsOrdered}
use Rattle.host_rules.specs.States.{State, Serves, Serving, Item, Moved, still, then_lines, then_move}
use Rattle.host_rules.specs.Play.{step, play}
use Rattle.host_rules.specs.Regular.{IsRegular}
use Rattle.host_rules.specs.Views.{item_label, visible, visible_items, Same}

-- what is above a hidden label is hidden
pub hidden_above : (P : Rules) → IsOrdered P → (o c l : ℕ) → P.flows c l ≡ true → P.flows c o ≡ false → P.flows l o ≡ false
hidden_above P order o c l up hidden = elim (P.flows l o) as (λ b. P.flows l o ≡ b → b ≡ false) [
  | true ↦ λ e. sym (order.transitive c l o up e) ∙ hidden
  | false ↦ λ e. refl
] refl

pub hidden_line : (P : Rules) (o : ℕ) (line : Line) → P.flows line.label.number o ≡ false → visible P o (line ∷ []) ≡ []
hidden_line P o line hidden = ap (λ b. cond b (line ∷ []) []) hidden

module _ {T : Type 0} (P : Rules) (o : ℕ) where
  pub record Agree (x y : Moved T) : Type 0 where
    pub same : Same P o x.state y.state
    pub left : IsRegular P x.state
    pub right : IsRegular P y.state
    pub lines : visible P o x.lines ≡ visible P o y.lines

  pub same_refl : (s : State T) → Same P o s s
  same_refl s = record { store = refl; lists = λ l h. refl; turns = λ l h. refl; requests = λ l h. refl; answered = λ l x h e k. refl }

  -- what is served in the one list is served in the other
  moved_over : (s t : State T) (l : ℕ) → s.lists l ≡ t.lists l → (x : Serving) → Serves s l x → Serves t l x
  moved_over s t l e x h = record { activation = h.activation; listed = subst (λ xs. Contains xs h.activation) e h.listed; serves = h.serves }

  pub same_sym : (s t : State T) → Same P o s t → Same P o t s
  same_sym s t same = record {
    store = sym same.store;
    lists = λ l h. sym (same.lists l h);
    turns = λ l h. sym (same.turns l h);
    requests = λ l h. sym (same.requests l h);
    answered = λ l x h e k. sym (same.answered l x h (moved_over t s l (sym (same.lists l h)) x e) k);
  }

  pub same_trans : (s t u : State T) → Same P o s t → Same P o t u → Same P o s u
  same_trans s t u f g = record {
    store = f.store ∙ g.store;
    lists = λ l h. f.lists l h ∙ g.lists l h;
    turns = λ l h. f.turns l h ∙ g.turns l h;
    requests = λ l h. f.requests l h ∙ g.requests l h;
    answered = λ l x h e j. f.answered l x h e j ∙ g.answered l x h (moved_over s t l (f.lists l h) x e) j;
  }

  pub agree_still : (s t : State T) → Same P o s t → IsRegular P s → IsRegular P t → Agree (still s) (still t)
  agree_still s t same left right = record { same = same; left = left; right = right; lines = refl }

  pub agree_sym : (x y : Moved T) → Agree x y → Agree y x
  agree_sym x y h = record { same = same_sym x.state y.state h.same; left = h.right; right = h.left; lines = sym h.lines }

  pub agree_trans : (x y z : Moved T) → Agree x y → Agree y z → Agree x z
  agree_trans x y z h k = record { same = same_trans x.state y.state z.state h.same k.same; left = h.left; right = k.right; lines = h.lines ∙ k.lines }

  -- lines before a move
  pub agree_lines : (ls ms : List Line) (x y : Moved T) → visible P o ls ≡ visible P o ms → Agree x y → Agree (then_lines ls x) (then_lines ms y)
  agree_lines ls ms x y e h = record {
    same = h.same;
    left = h.left;
    right = h.right;
    lines = filter-append (λ (line : Line). P.flows line.label.number o) ls x.lines
        ∙ ap (λ v. v ++ visible P o x.lines) e ∙ ap (λ v. visible P o ms ++ v) h.lines
        ∙ sym (filter-append (λ (line : Line). P.flows line.label.number o) ms y.lines);
  }

  -- a move before a move
  pub agree_move : (x y z w : Moved T) → visible P o x.lines ≡ visible P o y.lines → Agree z w → Agree (then_move x z) (then_move y w)
  agree_move x y z w e h = let k = agree_lines x.lines y.lines z w e h in record { same = k.same; left = k.left; right = k.right; lines = k.lines }

  pub agree_branch : (b c : Bool) (x y z w : Moved T) → b ≡ c → Agree x z → Agree y w → Agree (cond b x y) (cond c z w)
  agree_branch b c x y z w e h k = subst (λ c. Agree (cond b x y) (cond c z w)) e (both b)
    where
      both : (b : Bool) → Agree (cond b x y) (cond b z w)
      both true = h
      both false = k

  -- what moves at a label moves the same, whether the label is visible or not
  pub either_way : (l : ℕ) (x y : Moved T) (s t : State T) → Same P o s t → IsRegular P s → IsRegular P t
      → (P.flows l o ≡ false → Agree x (still s)) → (P.flows l o ≡ false → Agree y (still t)) → (P.flows l o ≡ true → Agree x y) → Agree x y
  either_way l x y s t same left right hx hy seen = elim (P.flows l o) as (λ b. P.flows l o ≡ b → Agree x y) [
    | true ↦ λ e. seen e
    | false ↦ λ e. agree_trans x (still s) y (hx e) (agree_trans (still s) (still t) y (agree_still s t same left right) (agree_sym y (still t) (hy e)))
  ] refl

  module _ (M : Guest T) where
    -- playing one list after another
    pub play_append : (xs ys : List Item) (t : State T) → play P M t (xs ++ ys) ≡ then_move (play P M t xs) (play P M (play P M t xs).state ys)
    play_append [] ys t = refl
    play_append (i ∷ xs) ys t =
        ap (then_move (step P M t i)) (play_append xs ys (step P M t i).state)
        ∙ assoc (step P M t i) (play P M (step P M t i).state xs) (play P M (play P M (step P M t i).state xs).state ys)
      where
        with_both : State T → List Line → List Item → Moved T
        with_both s lines outs = record { state = s; lines = lines; outs = outs }

        assoc : (x y z : Moved T) → then_move x (then_move y z) ≡ then_move (then_move x y) z
        assoc x y z = ap (λ ls. with_both z.state ls (x.outs ++ (y.outs ++ z.outs))) (sym (append_assoc x.lines y.lines z.lines))
            ∙ ap (λ os. with_both z.state ((x.lines ++ y.lines) ++ z.lines) os) (sym (append_assoc x.outs y.outs z.outs))

    -- what a hidden move shows is what its visible releases show, from any state that is the same to the observer
    pub record Follows (x : Moved T) (s : State T) : Type 0 where
      pub regular : IsRegular P x.state
      pub shows : (t : State T) → Same P o s t → IsRegular P t → Agree x (play P M t (visible_items P o x.outs))

    pub follows_quiet : (x : Moved T) (s : State T) → x.outs ≡ [] → Agree x (still s) → Follows x s
    follows_quiet x s e h = record {
      regular = h.left;
      shows = λ t same regular. subst (λ outs. Agree x (play P M t (visible_items P o outs))) (sym e)
          (agree_trans x (still s) (still t) h (agree_still s t same h.right regular));
    }

    pub follows_still : (s : State T) → IsRegular P s → Follows (still s) s
    follows_still s regular = follows_quiet (still s) s refl (agree_still s s (same_refl s) regular regular)

    pub follows_next : (x y : Moved T) (s : State T) → Follows x s → Follows y x.state → Follows (then_move x y) s
    follows_next x y s h k = record {
      regular = k.regular;
      shows = λ t same regular.
          (let vx = visible_items P o x.outs in
          let vy = visible_items P o y.outs in
          let u = play P M t vx in
          let first = h.shows t same regular in
          let next = k.shows u.state first.same first.right in
          subst (λ z. Agree (then_move x y) z) (sym (ap (play P M t) (filter-append (λ (i : Item). P.flows (item_label i) o) x.outs y.outs) ∙ play_append vx vy t))
          (agree_move x u y (play P M u.state vy) first.lines next));
    }

    pub follows_lines : (ls : List Line) (x : Moved T) (s : State T) → visible P o ls ≡ [] → Follows x s → Follows (then_lines ls x) s
    follows_lines ls x s e h = record {
      regular = h.regular;
      shows = λ t same regular. agree_lines ls [] x (play P M t (visible_items P o x.outs)) e (h.shows t same regular);
    }

    pub follows_branch : (b : Bool) (x y : Moved T) (s : State T) → Follows x s → Follows y s → Follows (cond b x y) s
    follows_branch true x y s h k = h
    follows_branch false x y s h k = k
