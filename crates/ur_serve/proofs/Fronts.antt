-- The items that bytes begin with are fixed.
use Rattle.std.proofs.Common.{◌≡◌, ℕ, List, [], ◌∷◌, ◌++◌, length, refl, sym, ap, subst, ◌∙◌, arith}
use Rattle.ur_io.specs.declared.session.Why.{Why}
use Rattle.ur_io.specs.declared.session.Why.TheVariants.{End, Truncated, Closed, Full, Wire}
use Rattle.ur_http.specs.declared.request.HttpRequest.{HttpRequest}
use Rattle.ur_http.specs.Items.{Begins, Step, more, fault, request as whole, Items, Ending}
use Rattle.ur_http.proofs.Once.{step_once, nothing_begins}
use Rattle.ur_serve.specs.Items.{Item, request, bad, Starts, Ends}
use Rattle.ur_serve.specs.Sessions.{Front, none, next}
use Rattle.ur_serve.specs.Fronts.{items_of, end_of, OneFront}

starts_once : (bytes : List ℕ) (x y : Item) (left rest : List ℕ) → Starts bytes x left → Starts bytes y rest → (x ≡ y) × (left ≡ rest)
starts_once bytes (request q) (request r) left rest a b = let same = step_once bytes (whole q left) (whole r rest) a b in (cc, cc)
starts_once bytes (request q) (bad status) left rest a (b, is) = let same = step_once bytes (whole q left) (fault status) a b in absurd (cc)
starts_once bytes (bad status) (request r) left rest (a, is) b = let same = step_once bytes (fault status) (whole r rest) a b in absurd (cc)
starts_once bytes (bad status) (bad other) left rest (a, is) (b, also) = let same = step_once bytes (fault status) (fault other) a b in (cc, is ∙ sym also)

fronts_once : (bytes : List ℕ) (xs ys : List Item) (left rest : List ℕ) → Front Starts bytes xs left → Front Starts bytes ys rest → length xs ≡ length ys → (xs ≡ ys) × (left ≡ rest)
fronts_once _ _ _ _ _ (none bytes) (none _) e = (refl, refl)
fronts_once _ _ _ _ _ (none bytes) (next _ middle left item items a others) e = absurd (omega arith)
fronts_once _ _ _ _ _ (next bytes middle left item items a others) (none _) e = absurd (omega arith)
fronts_once _ _ _ _ _ (next bytes middle left item items a others) (next _ middle' left' item' items' b these) e =
    let same = starts_once bytes item item' middle middle' a b in
    let again = fronts_once middle items items' left left' others (subst (λ m. Front Starts m items' left') (sym same.1) these) (omega arith) in
    let first : item ≡ item' = same.0 in
    let behind : items ≡ items' = again.0 in
    (cc, again.1)

pub front_more : (bytes : List ℕ) (items : List Item) (rest left : List ℕ) (item : Item) → Front Starts bytes items rest → Starts rest item left → Front Starts bytes (items ++ item ∷ []) left
front_more _ _ _ left item (none bytes) a = next bytes left left item [] a (none left)
front_more _ _ _ left item (next bytes middle rest first items b others) a = next bytes middle left first (items ++ item ∷ []) b (front_more middle items rest left item others a)

-- ---- all items

-- where the input ends no item begins
ends_not : (left : List ℕ) (why : Why) (s : Step) → Ends left why → Begins left s → s ≡ more
ends_not left End s is a = step_once [] s more (subst (λ l. Begins l s) is a) nothing_begins
ends_not left Truncated s (some, m) a = step_once left s more a m
ends_not left Closed s is a = absurd is
ends_not left Full s is a = absurd is
ends_not left Wire s is a = absurd is

item_not : (left rest : List ℕ) (why : Why) (item : Item) → Ends left why → Starts left item rest → ⊥
item_not left rest why (request q) ends a = let same = ends_not left why (whole q rest) ends a in absurd (cc)
item_not left rest why (bad status) ends (a, is) = let same = ends_not left why (fault status) ends a in absurd (cc)

-- bytes that are refused stay
refused_stays : (bytes : List ℕ) (items : List Item) (left : List ℕ) (status : ℕ) → Front Starts bytes items left → Begins bytes (fault status) → Begins left (fault status)
refused_stays _ _ _ status (none bytes) a = a
refused_stays _ _ _ status (next bytes middle left (request q) items b others) a = let same = step_once bytes (whole q middle) (fault status) b a in absurd (cc)
refused_stays _ _ _ status (next bytes middle left (bad other) items (b, is) others) a = refused_stays middle items left status others (subst (λ m. Begins m (fault status)) (sym is) a)

more_not : (bytes rest : List ℕ) (item : Item) → Begins bytes more → Starts bytes item rest → ⊥
more_not bytes rest (request q) m a = let same = step_once bytes (whole q rest) more a m in absurd (cc)
more_not bytes rest (bad status) m (a, is) = let same = step_once bytes (fault status) more a m in absurd (cc)

at_none : (bytes : List ℕ) (why : Why) (qs : List HttpRequest) (e : Ending) → Ends bytes why → Items bytes qs e → ([] ≡ items_of qs e) × (why ≡ end_of e)
at_none _ End _ _ ends Items.none = (refl, refl)
at_none _ Truncated _ _ ends Items.none = absurd (ends.0 refl)
at_none _ Closed _ _ ends Items.none = absurd ends
at_none _ Full _ _ ends Items.none = absurd ends
at_none _ Wire _ _ ends Items.none = absurd ends
at_none _ End _ _ ends (Items.cut bytes some m) = absurd (some ends)
at_none _ Truncated _ _ ends (Items.cut bytes some m) = (refl, refl)
at_none _ Closed _ _ ends (Items.cut bytes some m) = absurd ends
at_none _ Full _ _ ends (Items.cut bytes some m) = absurd ends
at_none _ Wire _ _ ends (Items.cut bytes some m) = absurd ends
at_none _ why _ _ ends (Items.wrong bytes status a) = let same = ends_not bytes why (fault status) ends a in absurd (cc)
at_none _ why _ _ ends (Items.next bytes rest r rs e a others) = let same = ends_not bytes why (whole r rest) ends a in absurd (cc)

all_items : (bytes : List ℕ) (xs : List Item) (left : List ℕ) (why : Why) (qs : List HttpRequest) (e : Ending) → Front Starts bytes xs left → Ends left why
    → Items bytes qs e → (xs ≡ items_of qs e) × (why ≡ end_of e)
all_items _ _ _ why qs e (none bytes) ends all = at_none bytes why qs e ends all
all_items _ _ _ why _ _ (next _ middle left item items a others) ends Items.none = absurd (more_not [] middle item nothing_begins a)
all_items _ _ _ why _ _ (next _ middle left item items a others) ends (Items.cut bytes some m) = absurd (more_not bytes middle item m a)
all_items _ _ _ why _ _ (next _ middle left item items a others) ends (Items.wrong bytes status b) =
    absurd (item_not left left why (bad status) ends (refused_stays bytes (item ∷ items) left status (next bytes middle left item items a others) b, refl))
all_items _ _ _ why _ _ (next _ middle left (bad status) items a others) ends (Items.next bytes rest r rs e b these) =
    let same = step_once bytes (fault status) (whole r rest) a.0 b in absurd (cc)
all_items _ _ _ why _ _ (next _ middle left (request q) items a others) ends (Items.next bytes rest r rs e b these) =
    let same : whole q middle ≡ whole r rest = step_once bytes (whole q middle) (whole r rest) a b in
    let left_is : middle ≡ rest = cc in
    let first : q ≡ r = cc in
    let again = all_items middle items left why rs e others ends (subst (λ m. Items m rs e) (sym left_is) these) in
    let behind : items ≡ items_of rs e = again.0 in
    (ap (λ q. request q ∷ items) first ∙ ap (λ l. request r ∷ l) behind, again.1)

pub one_front : (bytes : List ℕ) → OneFront bytes
one_front bytes = record { same = fronts_once bytes; all = all_items bytes }
