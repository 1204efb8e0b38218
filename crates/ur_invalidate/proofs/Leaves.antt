-- `==` of leaves decides equality.
use Rattle.std.proofs.Common.{◌≡◌, ap, ap₂}
use Rattle.std.specs.Bool.{Decides}
use Rattle.std.proofs.lemmas.Bool.Decides.{Decides-and, Decides-like, Decides-eqb}
use Rattle.ur_values.proofs.Equal.{atom_decides}
use Rattle.ur_invalidate.specs.declared.leaf.Leaf.{Leaf}
use Rattle.ur_invalidate.specs.declared.leaf.Leaf.TheVariants as leaf
use Rattle.ur_invalidate.specs.Numbers.{leaf_eq}

pub leaf_decides : (a b : Leaf) → Decides (leaf_eq a b) (a ≡ b)
leaf_decides (leaf.Item m c) (leaf.Item n d) = Decides-like _ (λ e. ap₂ leaf.Item e.0 e.1) (λ e. (cc, cc)) (Decides-and _ _ (Decides-eqb m n) (Decides-eqb c d))
leaf_decides (leaf.Item m c) (leaf.Row n) = (λ e. cc, λ e. cc)
leaf_decides (leaf.Item m c) (leaf.Old n) = (λ e. cc, λ e. cc)
leaf_decides (leaf.Item m c) (leaf.Key n) = (λ e. cc, λ e. cc)
leaf_decides (leaf.Item m c) (leaf.Arg n) = (λ e. cc, λ e. cc)
leaf_decides (leaf.Item m c) (leaf.Constant n) = (λ e. cc, λ e. cc)
leaf_decides (leaf.Row m) (leaf.Item n d) = (λ e. cc, λ e. cc)
leaf_decides (leaf.Row m) (leaf.Row n) = Decides-like _ (λ e. ap leaf.Row e) (λ e. cc) (Decides-eqb m n)
leaf_decides (leaf.Row m) (leaf.Old n) = (λ e. cc, λ e. cc)
leaf_decides (leaf.Row m) (leaf.Key n) = (λ e. cc, λ e. cc)
leaf_decides (leaf.Row m) (leaf.Arg n) = (λ e. cc, λ e. cc)
leaf_decides (leaf.Row m) (leaf.Constant n) = (λ e. cc, λ e. cc)
leaf_decides (leaf.Old m) (leaf.Item n d) = (λ e. cc, λ e. cc)
leaf_decides (leaf.Old m) (leaf.Row n) = (λ e. cc, λ e. cc)
leaf_decides (leaf.Old m) (leaf.Old n) = Decides-like _ (λ e. ap leaf.Old e) (λ e. cc) (Decides-eqb m n)
leaf_decides (leaf.Old m) (leaf.Key n) = (λ e. cc, λ e. cc)
leaf_decides (leaf.Old m) (leaf.Arg n) = (λ e. cc, λ e. cc)
leaf_decides (leaf.Old m) (leaf.Constant n) = (λ e. cc, λ e. cc)
leaf_decides (leaf.Key m) (leaf.Item n d) = (λ e. cc, λ e. cc)
leaf_decides (leaf.Key m) (leaf.Row n) = (λ e. cc, λ e. cc)
leaf_decides (leaf.Key m) (leaf.Old n) = (λ e. cc, λ e. cc)
leaf_decides (leaf.Key m) (leaf.Key n) = Decides-like _ (λ e. ap leaf.Key e) (λ e. cc) (Decides-eqb m n)
leaf_decides (leaf.Key m) (leaf.Arg n) = (λ e. cc, λ e. cc)
leaf_decides (leaf.Key m) (leaf.Constant n) = (λ e. cc, λ e. cc)
leaf_decides (leaf.Arg m) (leaf.Item n d) = (λ e. cc, λ e. cc)
leaf_decides (leaf.Arg m) (leaf.Row n) = (λ e. cc, λ e. cc)
leaf_decides (leaf.Arg m) (leaf.Old n) = (λ e. cc, λ e. cc)
leaf_decides (leaf.Arg m) (leaf.Key n) = (λ e. cc, λ e. cc)
leaf_decides (leaf.Arg m) (leaf.Arg n) = Decides-like _ (λ e. ap leaf.Arg e) (λ e. cc) (Decides-eqb m n)
leaf_decides (leaf.Arg m) (leaf.Constant n) = (λ e. cc, λ e. cc)
leaf_decides (leaf.Constant m) (leaf.Item n d) = (λ e. cc, λ e. cc)
leaf_decides (leaf.Constant m) (leaf.Row n) = (λ e. cc, λ e. cc)
leaf_decides (leaf.Constant m) (leaf.Old n) = (λ e. cc, λ e. cc)
leaf_decides (leaf.Constant m) (leaf.Key n) = (λ e. cc, λ e. cc)
leaf_decides (leaf.Constant m) (leaf.Arg n) = (λ e. cc, λ e. cc)
leaf_decides (leaf.Constant m) (leaf.Constant n) = Decides-like _ (λ e. ap leaf.Constant e) (λ e. cc) (atom_decides m n)
