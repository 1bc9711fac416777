-- The turns of a program that lists its input: what each does to what is kept, and what turns one after the other have read, listed and
-- handed out to be written; and, where the bytes that a reader has left and a writer holds are known, that these lost what was read and
-- grew by what was written. Assumes nothing.
use Rattle.std.specs.Prelude.{ℕ, suc, ◌+◌, ◌-◌, ◌^◌, ◌<◌, ◌≡◌, Bool, true, false, not, ◌&&◌, List, [], ◌++◌, length, take, drop, Option, ℤ}
use Rattle.std.specs.Io.KnownBytes.{Appends, Consumes}
use Rattle.header.specs.Header.{header_test}
use Rattle.tables.specs.declared.Table.{Table}
use Rattle.lines.specs.Lines.{Lines, last_line}
use Rattle.pieces.specs.declared.Listed.{Listed}
use Rattle.pieces.specs.Pieces.{Turn}
use Rattle.turns.specs.declared.State.{State}
use Rattle.turns.specs.declared.Stream.{Stream}
use Rattle.turns.specs.Turns.{Filled, ReadOut, begun, came, capped}

-- the state after d was listed of what is held, `sent` where its lines were all written
abbrev pub after_listing : State → Listed → Bool → State
after_listing s d sent = record {
  held = s.held - d.consumed;
  last = s.last;
  records = capped (s.records + d.records);
  accepted = capped (s.accepted + d.accepted);
  more = sent && not d.ended;
}

-- what came was read, in order, and where the program takes the input to have ended no known byte is left, unless a read failed; the text
-- was written, where all of it was, else the writer has failed
pub record Moved {R W : Type 0} (remaining : R → Option (List ℕ)) (contents : W → Option (List ℕ)) (from from' : Stream R) (to to' : Stream W) (input text : List ℕ) (last sent : Bool) : Type 0 where
  pub took : Consumes (remaining from.inner) (remaining from'.inner) input
  pub ended : ReadOut last from'.failed (remaining from'.inner)
  pub wrote : sent ≡ true → Appends (contents to.inner) (contents to'.inner) text
  pub whole : to'.failed ≡ false → sent ≡ true

module _ (table : Table) (reader : Lines) where
  -- what the buffer holds was listed, and the rest stands at its front
  pub record Turned (s t : State) (buffer buffer' out out' : List ℕ) (area area' : List ℤ) : Type 0 where
    pub listed : Listed
    pub sent : Bool
    pub turn : Turn table reader (take s.held buffer) (take s.held buffer') s.last out out' area area' listed
    pub past : drop s.held buffer' ≡ drop s.held buffer
    pub state : t ≡ after_listing s listed sent

  -- so many turns from the start: the bytes that came, in order, the text handed out, in order, and whether all of it was written; the
  -- state and the buffer after them
  pub data Run : ℕ → List ℕ → List ℕ → Bool → State → List ℕ → Type 0 where
    starts : (buffer : List ℕ) → Run 0 [] [] true begun buffer
    then : {k : ℕ} {input text : List ℕ} {sent : Bool} {s u t : State} {buffer filled rest out out' : List ℕ} {area area' : List ℤ}
        → Run k input text sent s buffer → s.more ≡ true → Filled s u buffer filled → (l : Turned u t filled rest out out' area area')
        → Run (suc k) (input ++ came s u filled) (text ++ take l.listed.written out') (sent && l.sent) t rest

  -- turns until there is no more to do, or 2^64 − 1 of them
  pub record Ran (s : State) (buffer : List ℕ) : Type 0 where
    pub turns : ℕ
    pub input : List ℕ
    pub text : List ℕ
    pub sent : Bool
    pub run : Run turns input text sent s buffer
    pub stops : s.more ≡ true → turns ≡ 2 ^ 64 - 1

  -- a run on all of the input c, which has a right header and is no longer than 2^64 bytes: what came are its bytes after the header, and
  -- where the program takes it to have ended none is unread; all that was handed out was written, and there is no more to do. The bytes
  -- are the text and the last line.
  pub record Printed (c bytes : List ℕ) : Type 0 where
    pub turns : ℕ
    pub input : List ℕ
    pub unread : List ℕ
    pub text : List ℕ
    pub sent : Bool
    pub state : State
    pub buffer : List ℕ
    pub right : header_test (take 5 c) ≡ true
    pub short : length c < 2 ^ 64
    pub run : Run turns input text sent state buffer
    pub came_all : drop 5 c ≡ input ++ unread
    pub ends : state.last ≡ true → unread ≡ []
    pub wrote : sent ≡ true
    pub over : state.more ≡ false
    pub are : bytes ≡ text ++ last_line state.records state.accepted

  -- ---- where it is read and written

  -- a turn whose lines were written, where they all were; else the writer has failed
  pub record TurnedTo {W : Type 0} (contents : W → Option (List ℕ)) (s t : State) (to to' : Stream W) (buffer buffer' out out' : List ℕ) (area area' : List ℤ) : Type 0 where
    pub turned : Turned s t buffer buffer' out out' area area'
    pub wrote : turned.sent ≡ true → Appends (contents to.inner) (contents to'.inner) (take turned.listed.written out')
    pub whole : to'.failed ≡ false → turned.sent ≡ true
    pub failing : to'.failed ≡ false → to.failed ≡ false

  -- turns that read from one stream and write to another
  pub record RanBetween {R W : Type 0} (remaining : R → Option (List ℕ)) (contents : W → Option (List ℕ)) (from from' : Stream R) (to to' : Stream W) (s : State) (buffer : List ℕ) : Type 0 where
    pub ran : Ran s buffer
    pub moved : Moved remaining contents from from' to to' ran.input ran.text s.last ran.sent
