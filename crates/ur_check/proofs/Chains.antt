-- Names that are put one behind the other.
use Rattle.std.proofs.Common.{◌≡◌, ap, sym, ◌∙◌, List, ◌++◌}
use Rattle.std.proofs.lemmas.List.{append_assoc}

pub one : {A : Type 0} {z w : List A} (o a : List A) → z ≡ o ++ a → w ≡ a → z ≡ o ++ w
one o a e f = e ∙ ap (λ v. o ++ v) (sym f)

joined : {A : Type 0} {m z : List A} (o a b : List A) → m ≡ o ++ a → z ≡ m ++ b → z ≡ o ++ (a ++ b)
joined o a b e f = f ∙ (ap (λ v. v ++ b) e ∙ append_assoc o a b)

pub two : {A : Type 0} {m z w : List A} (o a b : List A) → m ≡ o ++ a → z ≡ m ++ b → w ≡ a ++ b → z ≡ o ++ w
two o a b e f g = one o (a ++ b) (joined o a b e f) g

pub three : {A : Type 0} {m n z w : List A} (o a b c : List A) → m ≡ o ++ a → n ≡ m ++ b → z ≡ n ++ c → w ≡ a ++ (b ++ c) → z ≡ o ++ w
three o a b c e f g h = two o (a ++ b) c (joined o a b e f) g (h ∙ sym (append_assoc a b c))

pub four : {A : Type 0} {m n q z w : List A} (o a b c d : List A) → m ≡ o ++ a → n ≡ m ++ b → q ≡ n ++ c → z ≡ q ++ d → w ≡ a ++ (b ++ (c ++ d)) → z ≡ o ++ w
four o a b c d e f g h i = three o (a ++ b) c d (joined o a b e f) g h (i ∙ sym (append_assoc a b (c ++ d)))
