-- `array_decoder::decode_array` meets its contract. Assumes nothing.
use Prim.Native.Nat.{ℕ}
use mathlib.Core.Path.{refl}
use lib.ListN.{length, replicate}
use Rattle.refusals.proofs.CheckLaws.{err_is}
use Rattle.words.specs.Parts.{front_length}
use Rattle.arrays.specs.Arrays.{array_call}
use Rattle.array_decoder.specs.CallLaws.{array_fits, call_asks, call_read, call_refused}
use Rattle.array_decoder.proofs.decode_array.Goals as goal

pub returns-in_err-check_array : goal.returns-in_err-check_array
unfolding array_call
returns-in_err-check_array c =
    rw (err_is c.from_residual.ensures.1) (call_refused c.check_array.ensures _ _ _ refl c.in_err-check_array.was)

pub slice_bounds-grid-end : goal.slice_bounds-grid-end
slice_bounds-grid-end c =
    let a = c.args in
    array_fits (call_asks a.mr a.rr a.mc a.rc a.rounds a.leaves c.check_array.ensures c.in_ok-check_array.was refl)

pub read-requires : goal.read-requires
read-requires c =
    let a = c.args in
    let checked = c.check_array.ensures in
    let fits = array_fits (call_asks a.mr a.rr a.mc a.rc a.rounds a.leaves checked c.in_ok-check_array.was refl) in
    call_asks a.mr a.rr a.mc a.rc a.rounds a.leaves checked c.in_ok-check_array.was
    (front_length (length a.word.now) (replicate {A = ℕ} 4096 0) fits)

pub returns : goal.returns
unfolding array_call
returns c =
    call_read c.check_array.ensures c.in_ok-check_array.was c.read.ensures
