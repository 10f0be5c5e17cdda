-- What steps in turn appended of their texts.
use Rattle.std.proofs.Common.{ℕ, List, [], ◌++◌, subst, append-nil, Result, Ok, Err}
use Rattle.std.specs.declared.option.Option.{Option}
use Rattle.trapeze_io.specs.Appends.{AppendsAll, AppendsPrefix, AppendsLess}
use Rattle.trapeze_io.proofs.Appended.{all_after, prefix_after, prefix_wider, less_after, less_wider}
use Rattle.trapeze_cli.specs.declared.halt.Halt.{Halt}
use Rattle.trapeze_cli.specs.declared.halt.Halt.TheVariants.{Write, NoMemory}
use Rattle.trapeze_cli.specs.Playing.{AppendsBy}

-- one step's text after another's
pub by_after : {A : Type 0} (result : Result A Halt) (first said : List ℕ) (old mid new : Option (List ℕ)) → AppendsAll first old mid → AppendsBy result said mid new
    → AppendsBy result (first ++ said) old new
by_after (Ok a) first said old mid new w p = all_after first said old mid new w p
by_after (Err Write) first said old mid new w p =
    subst (λ t. AppendsLess [] t old new) (append-nil (first ++ said)) (less_wider [] (first ++ []) (first ++ said) [] old new (less_after first [] said old mid new w p))
by_after (Err NoMemory) first said old mid new w p =
    subst (λ t. AppendsPrefix [] t old new) (append-nil (first ++ said)) (prefix_wider [] (first ++ []) (first ++ said) [] old new (prefix_after first [] said old mid new w p))

-- where a step halts, what it wrote is a prefix of a longer text too
pub by_longer : (A B : Type 0) (halt : Halt) (said others : List ℕ) (old new : Option (List ℕ)) → AppendsBy {A = A} (Err halt) said old new → AppendsBy {A = B} (Err halt) (said ++ others) old new
by_longer A B Write said others old new p = less_wider [] [] said others old new p
by_longer A B NoMemory said others old new p = prefix_wider [] [] said others old new p

-- a halt says the same of any answer
pub by_halt : (A B : Type 0) (halt : Halt) (said : List ℕ) (old new : Option (List ℕ)) → AppendsBy {A = A} (Err halt) said old new → AppendsBy {A = B} (Err halt) said old new
by_halt A B Write said old new p = p
by_halt A B NoMemory said old new p = p
