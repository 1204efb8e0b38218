-- Nodes that are there once are static expressions that are there once.
use Rattle.std.proofs.Common.{◌≡◌, ◌≢◌, List, [], ◌∷◌, ◌++◌, sym, ◌∙◌}
use Rattle.std.specs.List.{AllByRecursion, AllZip}
use Rattle.ur_tree.specs.declared.closed.Static.{Static}
use Rattle.ur_meaning.specs.Instances.{Different}
use Rattle.ur_unfold_static.specs.declared.node.Node.{Node}
use Rattle.ur_unfold_static.specs.Held.{Held, static_of_node, with_static, held_from, NodeFits, Rises}
use Rattle.ur_unfold_static.proofs.Laws.{grows_static, node_same, node_fits}
use Rattle.ur_unfold_static.proofs.Once.{node_once}

-- the static expression of a node that is there
abbrev pub Makes : Held → Static → Node → Type 0
Makes held s m = NodeFits held m × (s ≡ static_of_node held m)

last_zip : {A B : Type 0} (R : A → B → Type 0) (xs : List A) (ys : List B) (x : A) (y : B) → AllZip R xs ys → R x y → AllZip R (xs ++ x ∷ []) (ys ++ y ∷ [])
last_zip R [] [] x y z h = (h, tt)
last_zip R [] (b ∷ ys) x y z h = absurd z
last_zip R (a ∷ xs) [] x y z h = absurd z
last_zip R (a ∷ xs) (b ∷ ys) x y z h = (z.0, last_zip R xs ys x y z.1 h)

still : (old new : Held) (g : (m : Node) → NodeFits old m → NodeFits new m) (e : (m : Node) → NodeFits old m → static_of_node new m ≡ static_of_node old m)
    (ss : List Static) (ms : List Node) → AllZip (Makes old) ss ms → AllZip (Makes new) ss ms
still old new g e [] [] z = tt
still old new g e [] (m ∷ ms) z = absurd z
still old new g e (s ∷ ss) [] z = absurd z
still old new g e (s ∷ ss) (m ∷ ms) z = ((g m z.0.0, z.0.1 ∙ sym (e m z.0.0)), still old new g e ss ms z.1)

last_all : {A : Type 0} (P : A → Type 0) (xs : List A) (y : A) → AllByRecursion P xs → P y → AllByRecursion P (xs ++ y ∷ [])
last_all P [] y a h = (h, tt)
last_all P (x ∷ xs) y a h = (a.0, last_all P xs y a.1 h)

pub last_differs : {A : Type 0} (xs : List A) (y : A) → Different xs → AllByRecursion (λ x. x ≢ y) xs → Different (xs ++ y ∷ [])
last_differs [] y d a = (tt, tt)
last_differs (x ∷ xs) y d a = (last_all (λ z. x ≢ z) xs y d.0 a.0, last_differs xs y d.1 a.1)

-- a node that is new is a static expression that is new
new_static : (held : Held) → Different held.cons → Different held.lambdas → Different held.statics → (n : Node) → NodeFits held n
    → (ss : List Static) (ms : List Node) → AllZip (Makes held) ss ms → AllByRecursion (λ m. m ≢ n) ms → AllByRecursion (λ s. s ≢ static_of_node held n) ss
new_static held dc dl ds n f [] ms z a = tt
new_static held dc dl ds n f (s ∷ ss) [] z a = absurd z
new_static held dc dl ds n f (s ∷ ss) (m ∷ ms) z a =
    (λ e. a.0 (node_once held dc dl ds m n z.0.0 f (sym z.0.1 ∙ e)), new_static held dc dl ds n f ss ms z.1 a.1)

-- a list of nodes that are each new
abbrev pub AreNew : List Node → List Node → Type 0
AreNew ms = AllByRecursion (λ n. AllByRecursion (λ m. m ≢ n) ms)

news_longer : (ms : List Node) (n : Node) (ns : List Node) → AreNew ms ns → AllByRecursion (λ k. n ≢ k) ns → AreNew (ms ++ n ∷ []) ns
news_longer ms n [] a d = tt
news_longer ms n (k ∷ ns) a d = (last_all (λ m. m ≢ k) ms n a.0 d.0, news_longer ms n ns a.1 d.1)

pub statics_differ : (held : Held) (ms ns : List Node) → Different held.cons → Different held.lambdas → Different held.statics → AllZip (Makes held) held.statics ms
    → Rises held ns → Different ns → AreNew ms ns → Different (held_from held ns).statics
statics_differ held ms [] dc dl ds z r d a = ds
statics_differ held ms (n ∷ ns) dc dl ds z r d a =
    let s = static_of_node held n in
    let next = with_static held s in
    let g = grows_static held s in
    let fits = λ (m : Node) (h : NodeFits held m). node_fits held next g m h in
    let same = λ (m : Node) (h : NodeFits held m). node_same held next g m h in
    statics_differ next (ms ++ n ∷ []) ns dc dl
    (last_differs held.statics s ds (new_static held dc dl ds n r.0 held.statics ms z a.0))
    (last_zip (Makes next) held.statics ms s n (still held next fits same held.statics ms z) (fits n r.0, sym (same n r.0)))
    r.1 d.1 (news_longer ms n ns a.1 d.0)

pub none_new : (ns : List Node) → AreNew [] ns
none_new [] = tt
none_new (n ∷ ns) = (tt, none_new ns)
