-- Texts that were appended one after the other, as far as a sink took them.
use Rattle.std.proofs.Common.{◌≡◌, ℕ, suc, ◌<◌, List, [], ◌++◌, length, get_or, take, drop, refl, sym, ap, subst, ◌∙◌, append_assoc, arith, length-append, length-drop, take-append-drop, Result, Ok, Err, OnErr}
use Rattle.std.specs.declared.option.Option.{Option}
use Rattle.std.specs.Io.KnownBytes.{append_known}
use Rattle.std.specs.List.{flat_map}
use Rattle.std.proofs.Math.Seq.{drop-cons}
use Rattle.std.proofs.lemmas.Grind.{flat_map-append}
use Rattle.trapeze_io.specs.Appends.{AppendsAll, AppendsPrefix, AppendsLess, Says}
use Rattle.trapeze_io.proofs.CallsInTurn.{append_known-append, append_known-nil}

pub all_none : (old : Option (List ℕ)) → AppendsAll [] old old
all_none old = append_known-nil old

pub prefix_none : (said : List ℕ) (old : Option (List ℕ)) → AppendsPrefix [] said old old
prefix_none said old = record { more = []; left = said; split = refl; appended = append_known-nil old }

-- all of a text, and then all of another
pub all_after : (first second : List ℕ) (old mid new : Option (List ℕ)) → AppendsAll first old mid → AppendsAll second mid new → AppendsAll (first ++ second) old new
all_after first second old mid new w a = a ∙ ap (λ k. append_known k second) w ∙ append_known-append old first second

-- all of a text, and then a prefix of another
abbrev pub prefix_after : (first least said : List ℕ) (old mid new : Option (List ℕ)) → AppendsAll first old mid → AppendsPrefix least said mid new
    → AppendsPrefix (first ++ least) (first ++ said) old new
prefix_after first least said old mid new w f = record {
  more = f.more;
  left = f.left;
  split = ap (λ t. first ++ t) f.split ∙ sym (append_assoc first (least ++ f.more) f.left) ∙ ap (λ t. t ++ f.left) (sym (append_assoc first least f.more));
  appended = all_after first (least ++ f.more) old mid new w f.appended ∙ ap (append_known old) (sym (append_assoc first least f.more));
}

-- less is held, of a longer text
abbrev pub prefix_wider : (least second said others : List ℕ) (old new : Option (List ℕ)) → AppendsPrefix (least ++ second) said old new → AppendsPrefix least (said ++ others) old new
prefix_wider least second said others old new f = record {
  more = second ++ f.more;
  left = f.left ++ others;
  split = ap (λ t. t ++ others) (f.split ∙ ap (λ t. t ++ f.left) (append_assoc least second f.more)) ∙ append_assoc (least ++ (second ++ f.more)) f.left others;
  appended = f.appended ∙ ap (append_known old) (append_assoc least second f.more);
}

-- the same of prefixes that are not all
pub less_after : (first least said : List ℕ) (old mid new : Option (List ℕ)) → AppendsAll first old mid → AppendsLess least said mid new
    → AppendsLess (first ++ least) (first ++ said) old new
less_after first least said old mid new w p = record { prefix = prefix_after first least said old mid new w p.prefix; proper = p.proper }

pub less_wider : (least second said others : List ℕ) (old new : Option (List ℕ)) → AppendsLess (least ++ second) said old new → AppendsLess least (said ++ others) old new
less_wider least second said others old new p =
    record { prefix = prefix_wider least second said others old new p.prefix; proper = omega (arith, p.proper, length-append p.prefix.left others) }

-- as many bytes as were taken, where they are not all
pub less_taken : (count : ℕ) (said : List ℕ) (old new : Option (List ℕ)) → count < length said → new ≡ append_known old (take count said) → AppendsLess [] said old new
less_taken count said old new few taken = record {
  prefix = record { more = take count said; left = drop count said; split = sym (take-append-drop count said); appended = taken };
  proper = omega (arith, few, length-drop count said);
}

-- the texts of the pieces before one, of it, and of those after it
flat_map-at : {X A : Type 0} (f : X → List A) (xs : List X) (i : ℕ) (d : X) → i < length xs
    → (flat_map f (take i xs) ++ f (get_or xs i d)) ++ flat_map f (drop (suc i) xs) ≡ flat_map f xs
flat_map-at f xs i d h =
    append_assoc (flat_map f (take i xs)) (f (get_or xs i d)) (flat_map f (drop (suc i) xs))
    ∙ ap (λ rest. flat_map f (take i xs) ++ flat_map f rest) (sym (drop-cons xs i d h))
    ∙ sym (flat_map-append f (take i xs) (drop i xs))
    ∙ ap (flat_map f) (take-append-drop i xs)

-- all of the pieces before one, and a part of it
pub less_of_pieces : {X : Type 0} (old mid new : Option (List ℕ)) (f : X → List ℕ) (xs : List X) (i : ℕ) (d : X) → i < length xs
    → AppendsAll (flat_map f (take i xs)) old mid → AppendsLess [] (f (get_or xs i d)) mid new → AppendsLess [] (flat_map f xs) old new
less_of_pieces old mid new f xs i d h before less =
    subst (λ text. AppendsLess [] text old new) (flat_map-at f xs i d h)
    (less_wider [] (flat_map f (take i xs) ++ []) (flat_map f (take i xs) ++ f (get_or xs i d)) (flat_map f (drop (suc i) xs)) old new
    (less_after (flat_map f (take i xs)) [] (f (get_or xs i d)) old mid new before less))

-- what holds by itself holds after an error
pub OnErr-always : {T E P : Type 0} (result : Result T E) → P → OnErr result P
OnErr-always (Ok value) p = tt
OnErr-always (Err error) p = p

-- what is said of a text is said of an equal one
pub Says-equal : (old new : Option (List ℕ)) (before now : ℕ) (text other : List ℕ) → Says old new before now text → text ≡ other → Says old new before now other
Says-equal old new before now text other says equal = subst (λ (text : List ℕ). Says old new before now text) equal says
