-- Words of worked examples.
use Rattle.std.specs.Prelude.{◌≡◌, [], ◌∷◌, Some, None, codes, refl}
use Rattle.ur_words.specs.Words.{read}
use Rattle.ur_words.specs.declared.reading.Reading.TheVariants as reading

pub check_row : read (codes "check" ∷ codes "notes.urp" ∷ []) ≡ Some (reading.Check (codes "notes.urp"))
check_row = refl

pub serve_without_port : read (codes "serve" ∷ codes "notes.urp" ∷ []) ≡ None
serve_without_port = refl

pub serve_row : read (codes "serve" ∷ codes "--port=080" ∷ codes "notes" ∷ codes "--cache" ∷ codes "0" ∷ [])
    ≡ Some (reading.Serve (codes "notes") 80 (record { db = None; cache = 0; steps = 100000 }) 1000000)
serve_row = refl

pub replay_row : read (codes "replay" ∷ codes "--db" ∷ codes "f" ∷ codes "--" ∷ codes "-p" ∷ [])
    ≡ Some (reading.Replay (codes "-p") (record { db = Some (codes "f"); cache = 1024; steps = 100000 }))
replay_row = refl

pub twice : read (codes "replay" ∷ codes "p" ∷ codes "--db=a" ∷ codes "--db=b" ∷ []) ≡ None
twice = refl

pub dash : read (codes "check" ∷ codes "-" ∷ []) ≡ None
dash = refl

pub dash_value : read (codes "replay" ∷ codes "p" ∷ codes "--db" ∷ codes "-" ∷ []) ≡ None
dash_value = refl

pub no_value : read (codes "replay" ∷ codes "p" ∷ codes "--db" ∷ []) ≡ None
no_value = refl

pub load_row : read (codes "load" ∷ codes "1" ∷ codes "8" ∷ []) ≡ Some (reading.Load 1 8)
load_row = refl

pub zero_seed : read (codes "load" ∷ codes "0" ∷ codes "8" ∷ []) ≡ None
zero_seed = refl

pub dashes_named : read (codes "check" ∷ codes "--" ∷ codes "--" ∷ []) ≡ Some (reading.Check (codes "--"))
dashes_named = refl

pub dashes_last : read (codes "check" ∷ codes "notes.urp" ∷ codes "--" ∷ []) ≡ Some (reading.Check (codes "notes.urp"))
dashes_last = refl

pub value_with_dash : read (codes "replay" ∷ codes "p" ∷ codes "--db=-x" ∷ [])
    ≡ Some (reading.Replay (codes "p") (record { db = Some (codes "-x"); cache = 1024; steps = 100000 }))
value_with_dash = refl

pub dashes_are_no_value : read (codes "replay" ∷ codes "p" ∷ codes "--db" ∷ codes "--" ∷ []) ≡ None
dashes_are_no_value = refl

pub port_0 : read (codes "serve" ∷ codes "p" ∷ codes "--port" ∷ codes "0" ∷ []) ≡ None
port_0 = refl

pub port_with_sign : read (codes "serve" ∷ codes "p" ∷ codes "--port" ∷ codes "+1" ∷ []) ≡ None
port_with_sign = refl
