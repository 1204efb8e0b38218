-- What the end of a run says of what is printed.
use Rattle.std.proofs.Common.{◌≡◌, ◌≢◌, inl, inr, ℕ, List, [], ◌++◌, Option, Some, None, refl, sym, ap, subst, ◌∙◌, append-nil, append_assoc}
use Rattle.ur_base.specs.Counts.{Rose}
use Rattle.ur_base.specs.Told.{WhereTold}
use Rattle.ur_io.specs.Files.{Files}
use Rattle.ur_io.specs.declared.session.SessionEnd.{SessionEnd}
use Rattle.ur_words.specs.declared.reading.Reading.{Reading}
use Rattle.ur_words.specs.declared.reading.Reading.TheVariants.{Check, Sites, Replay, Serve, Load}
use Rattle.ur_values.specs.declared.schema.Schema.{Schema}
use Rattle.ur_keeper.specs.Tables.{Tables, KeptSchema, Untold, Empty, Keeps, Spells}
use Rattle.ur_keeper.specs.Keeper.{AttachesTo}
use Rattle.ur_keeper.specs.declared.keeper.Attached.TheVariants.{Differs}
use Rattle.ur_words.specs.Texts as texts
use Rattle.ur_headline.specs.Readings.{serving}
use Rattle.ur_top.specs.Ends.{World, Ends, IsSaid, SaysAt, SaysMade, Reports}
use Rattle.ur_top.specs.Prints.{Prints, Rises, first_line, IsKept}
use Rattle.ur_top.specs.declared.reporting.RunEnd.{RunEnd}
use Rattle.ur_top.specs.declared.reporting.RunEnd.TheVariants as end

abbrev pub rises_of : World → World → Rises
rises_of old new = record { shelf = Rose old.shelf_faults new.shelf_faults; wire = Rose old.wire_faults new.wire_faults; keeper = Rose old.keeper_faults new.keeper_faults }

-- the schema that differs is the kept one, where that was told
is_kept : (kept application : Schema) (k : KeptSchema) (saved saved' : Option Tables) → AttachesTo application k (Differs kept) saved saved' → IsKept k kept
is_kept kept application Untold saved saved' h = tt
is_kept kept application Empty saved saved' h = tt
is_kept kept application (Keeps other) saved saved' h = sym h.0
is_kept kept application (Spells text tables) saved saved' h = h.0.spells

module _ (told : Option Files) (reading : Option Reading) (old new : World) (sessions : List SessionEnd) (status : ℕ) where
  abbrev IsPrinted : ℕ → List ℕ → Type 0
  IsPrinted = Prints told old.kept reading (rises_of old new) sessions

  -- a text that is due at a status, or a front of it
  said_at : (due : ℕ) (before text said : List ℕ) → IsPrinted due (before ++ text) → SaysAt due text status said → IsPrinted status (before ++ said)
  said_at due before text said p (inl (s, e)) = rw (s, e) p
  said_at due before text said p (inr (s, front)) = rw s (Prints.cut due (before ++ text) (before ++ said) p (front.0, ap (λ t. before ++ t) front.1 ∙ sym (append_assoc before said front.0)))

  alone : (due : ℕ) (text said : List ℕ) → IsPrinted due text → SaysAt due text status said → IsPrinted status said
  alone due text said p says = said_at due [] text said p says

  made : (due : ℕ) (text said : List ℕ) → IsPrinted due text → SaysMade due text status said → IsPrinted status said
  made due text said p (inl says) = alone due text said p says
  made due text said p (inr says) = alone 8 texts.memory said (Prints.memory [] (inl refl)) says

  served_text : (r : Option Reading) → reading ≡ r → serving r ≢ None → IsPrinted 0 (first_line r)
  served_text None is serves = absurd (serves refl)
  served_text (Some (Check p)) is serves = absurd (serves refl)
  served_text (Some (Sites p)) is serves = absurd (serves refl)
  served_text (Some (Replay p s)) is serves = Prints.replayed p s is
  served_text (Some (Serve p port s n)) is serves = Prints.served p port s n is
  served_text (Some (Load seed n)) is serves = absurd (serves refl)

  with_nothing : (before said : List ℕ) → said ≡ [] → IsPrinted status before → IsPrinted status (before ++ said)
  with_nothing before said e p = subst (λ t. IsPrinted status (before ++ t)) (sym e) (subst (IsPrinted status) (sym (append-nil before)) p)

  with_none : (before said : List ℕ) → before ≡ [] → IsPrinted status said → IsPrinted status (before ++ said)
  with_none before said e p = subst (λ t. IsPrinted status (t ++ said)) (sym e) p

  pub prints : (e : RunEnd) (before said : List ℕ) → Ends told reading old new e sessions → IsSaid reading e before → Reports e status said → IsPrinted status (before ++ said)
  prints end.Done before said served b (s, e) =
      with_nothing before said e (subst (λ n. IsPrinted n before) (sym s) (subst (IsPrinted 0) (sym b) (served_text reading refl served.serves)))
  prints end.Wire before said fault b says =
      said_at 6 before texts.wire_fault said (subst (λ t. IsPrinted 6 (t ++ texts.wire_fault)) (sym b) (Prints.wire_fault fault.rose fault.status)) says
  prints end.Memory before said want b says = said_at 8 before texts.memory said (Prints.memory before b) says
  prints end.Sink before said ((p, port, set, n, is), calls) front (s, e) =
      with_nothing before said e (subst (λ k. IsPrinted k before) (sym s) (Prints.cut 0 (first_line reading) before (first is) front))
    where
      first : reading ≡ Some (Serve p port set n) → IsPrinted 0 (first_line reading)
      first is = subst (λ r. IsPrinted 0 (first_line r)) (sym is) (Prints.served p port set n is)
  prints end.Usage before said (none, calls) b says = with_none before said b (alone 1 texts.usage said (Prints.no_command none) says)
  prints (end.Checked routes) before said ((p, is, its), compiled, calls) b says = with_none before said b (made 0 (texts.check_report routes) said (Prints.checked p routes is its) says)
  prints (end.Listed text) before said (listing, compiled, calls) b says =
      with_none before said b (alone 0 text said (subst (IsPrinted 0) (sym listing.is) (Prints.listed listing.project listing.queries listing.changes listing.patterns listing.asked listing.its listing.all)) says)
  prints (end.Loaded r) before said ((seed, is, load), compiled, calls) b says = with_none before said b (made 0 (texts.load_report r) said (Prints.loaded seed r is load) says)
  prints (end.Refused file r) before said (refuses, calls) b says = with_none before said b (made 2 (texts.refusal_line file r) said (Prints.refused file r refuses) says)
  prints (end.Schema kept application) before said other b says =
      with_none before said b (made 3 (texts.schema_report kept application) said
      (Prints.other_schema kept application other.its other.differs (is_kept kept application old.kept old.saved new.saved other.attaches)) says)
  prints end.Shelf before said (some, rose, calls) b says = with_none before said b (alone 4 texts.shelf_fault said (Prints.shelf_fault rose) says)
  prints end.Keeper before said (compiled, serves, rose, calls) b says = with_none before said b (alone 7 texts.keeper_fault said (Prints.keeper_fault rose calls.none) says)

-- the two texts one behind the other
pub joined : (o mid new : Option (List ℕ)) (P Q R : List ℕ → Type 0) → ((before said : List ℕ) → P before → Q said → R (before ++ said))
    → WhereTold o (λ first. (text : List ℕ) × (mid ≡ Some (first ++ text)) × P text) → WhereTold mid (λ first. (text : List ℕ) × (new ≡ Some (first ++ text)) × Q text)
    → WhereTold o (λ first. (text : List ℕ) × (new ≡ Some (first ++ text)) × R text)
joined None mid new P Q R h a b = tt
joined (Some first) mid new P Q R h (before, is, p) b = next (subst (λ m. WhereTold m (λ first. (text : List ℕ) × (new ≡ Some (first ++ text)) × Q text)) is b)
  where
    next : (text : List ℕ) × (new ≡ Some ((first ++ before) ++ text)) × Q text → (text : List ℕ) × (new ≡ Some (first ++ text)) × R text
    next (said, is, q) = (before ++ said, is ∙ ap Some (append_assoc first before said), h before said p q)
