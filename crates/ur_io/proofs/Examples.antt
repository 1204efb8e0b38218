-- Worked rows of the definitions.
use Rattle.std.proofs.Common.{◌≡◌, [], ◌∷◌, Some, None, true, refl}
use Rattle.ur_io.specs.Files.{fetched}
use Rattle.ur_base.specs.FaultPlans.{new_plan}
use Rattle.ur_io.specs.Memory.{WireState, file_of, cut_at, piece_from, traffic_of, after_next}
use Rattle.ur_io.specs.Traffic.{onto_last}
use Rattle.ur_io.specs.declared.shelf.Fetched.TheVariants.{Whole, Longer, Missing}

whole_file : fetched 2 (Some (1 ∷ 2 ∷ [])) ≡ Whole (1 ∷ 2 ∷ [])
whole_file = refl

longer_file : fetched 1 (Some (1 ∷ 2 ∷ [])) ≡ Longer
longer_file = refl

empty_file : fetched 0 (Some []) ≡ Whole []
empty_file = refl

no_file : fetched 9 None ≡ Missing
no_file = refl

first_of_the_name : file_of ((7 ∷ [], 1 ∷ []) ∷ (7 ∷ [], 2 ∷ []) ∷ []) (7 ∷ []) ≡ Some (1 ∷ [])
first_of_the_name = refl

last_list_grows : onto_last ((1 ∷ []) ∷ (2 ∷ []) ∷ []) (3 ∷ []) ≡ (1 ∷ []) ∷ (2 ∷ 3 ∷ []) ∷ []
last_list_grows = refl

parts_of_bytes : cut_at (0 ∷ 2 ∷ 2 ∷ []) (1 ∷ 2 ∷ 3 ∷ []) ≡ (1 ∷ 2 ∷ []) ∷ [] ∷ (3 ∷ []) ∷ []
parts_of_bytes = refl

rest_of_a_piece : piece_from 3 ((1 ∷ 2 ∷ []) ∷ [] ∷ (3 ∷ 4 ∷ []) ∷ []) ≡ 4 ∷ []
rest_of_a_piece = refl

-- one of two connections is current, two bytes of its input are taken, and a byte was given on it
half_way : WireState
half_way = record {
  connections = ((1 ∷ []) ∷ (2 ∷ 3 ∷ []) ∷ []) ∷ ((4 ∷ []) ∷ []) ∷ [];
  opened = 1;
  taken = 2;
  is_current = true;
  given = (9 ∷ []) ∷ [];
  room = 5;
  plan = new_plan [];
}

what_is_told : traffic_of half_way ≡ record { coming = (4 ∷ []) ∷ []; taken = 1 ∷ 2 ∷ []; left = 3 ∷ []; given = (9 ∷ []) ∷ [] }
unfolding half_way
what_is_told = refl

told_after_next : traffic_of (after_next half_way) ≡ record { coming = []; taken = []; left = 4 ∷ []; given = (9 ∷ []) ∷ [] ∷ [] }
unfolding half_way
told_after_next = refl
