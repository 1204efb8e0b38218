use Rattle.std.proofs.Common.{◌≡◌, ◌+◌, [], ◌++◌, Some, take, drop, sym, subst, arith}
use Rattle.std.proofs.Math.Seq.{take-add}
use Rattle.std.proofs.lemmas.List.{length-drop, take_rest}
use Rattle.ur_lex.specs.Spelling.{Reads, IsPiece, end}
use Rattle.ur_lex.specs.Scanning.{first_piece}
use Rattle.ur_lex.proofs.Readings.{piece_of_first, reads_more}
use Rattle.ur_lex.proofs.pieces.read.Goals as goal

pub loop-piece-init : goal.loop-piece-init
loop-piece-init c = record { within = omega arith; reads = subst (λ z. Reads (IsPiece c.args.alphabet) [] z) (sym c.new-content.ensures) end }

pub loop-piece-preserved : goal.loop-piece-preserved
loop-piece-preserved c =
    let a = c.args.alphabet in
    let bytes = c.args.bytes.now in
    let len = c.loop-piece.len in
    let p = c.in-Some.piece in
    let e : first_piece a (drop len bytes) ≡ Some (p.len, p.meant.now) = subst (λ z. first_piece a z ≡ Some (p.len, p.meant.now)) (take_rest bytes len) c.in-Some.ensures in
    let (is, le, some) = piece_of_first a (drop len bytes) p.len p.meant.now e in
    let r : Reads (IsPiece a) (take len bytes ++ take p.len (drop len bytes)) (c.loop-piece.content ++ p.meant.now) = reads_more a _ _ c.loop-piece.invariant.reads is in
    let more : take (len + p.len) bytes ≡ take len bytes ++ take p.len (drop len bytes) = take-add len p.len bytes in
    let r' : Reads (IsPiece a) (take (len + p.len) bytes) (c.loop-piece.content ++ p.meant.now) = subst (λ z. Reads (IsPiece a) z (c.loop-piece.content ++ p.meant.now)) (sym more) r in
    let k = c.in_ok-extend_from_slice.ensures.ok in
    record { within = omega (arith, le, length-drop len bytes, c.loop-piece.invariant.within); reads = subst (λ z. Reads (IsPiece a) (take (len + p.len) bytes) z) (sym k) r' }
