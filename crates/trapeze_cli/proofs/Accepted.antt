-- The line of a policy that is accepted.
use Rattle.std.proofs.Common.{◌≡◌, ℕ, List, [], ◌++◌, append_assoc, codes, decimal, inl, inr, refl, ap, subst, ◌∙◌}
use Rattle.std.specs.declared.option.Option.{Option}
use Rattle.std.specs.Io.KnownBytes.{append_known}
use Rattle.trapeze_io.specs.Causes.{Rose}
use Rattle.trapeze_cli.specs.declared.status.Status.TheVariants as status
use Rattle.trapeze_cli.specs.Command.{check_text}
use Rattle.trapeze_io.specs.Appends.{AppendsLess}
use Rattle.trapeze_cli.specs.Ends.{SaysText}

-- the pieces of the line
abbrev pub pieces_text : List ℕ → List ℕ → List ℕ → List ℕ → List ℕ
pieces_text labels functions channels clients =
    codes "ok: " ++ (labels ++ (codes " labels, " ++ (functions ++ (codes " functions, " ++ (channels ++ (codes " channels, " ++ (clients ++ codes " clients\n")))))))

module _ (labels functions channels clients : ℕ) (a b c d : List ℕ) (old new : Option (List ℕ)) (before now : ℕ) where
  same_text : a ≡ decimal labels → b ≡ decimal functions → c ≡ decimal channels → d ≡ decimal clients → pieces_text a b c d ≡ check_text labels functions channels clients
  same_text p q r s = ap (λ x. pieces_text x b c d) p ∙ ap (λ x. pieces_text (decimal labels) x c d) q ∙ ap (λ x. pieces_text (decimal labels) (decimal functions) x d) r
      ∙ ap (λ x. pieces_text (decimal labels) (decimal functions) (decimal channels) x) s ∙ one_text
    where
      one_text : pieces_text (decimal labels) (decimal functions) (decimal channels) (decimal clients) ≡ check_text labels functions channels clients
      one_text = simp (append_assoc)

  pub accepted_all : a ≡ decimal labels → b ≡ decimal functions → c ≡ decimal channels → d ≡ decimal clients → new ≡ append_known old (pieces_text a b c d)
      → SaysText (check_text labels functions channels clients) status.Done old new before now
  accepted_all p q r s all = inl (refl, all ∙ ap (append_known old) (same_text p q r s))

  pub accepted_less : a ≡ decimal labels → b ≡ decimal functions → c ≡ decimal channels → d ≡ decimal clients → AppendsLess [] (pieces_text a b c d) old new → Rose before now
      → SaysText (check_text labels functions channels clients) status.WriteFault old new before now
  accepted_less p q r s part rose = inr (refl, subst (λ t. AppendsLess [] t old new) (same_text p q r s) part, rose)
