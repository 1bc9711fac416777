-- A street of meters that send in turn, over the list of its steps: document 02, request 10. Assumes nothing.
use Rattle.std.specs.Prelude.{ℕ, zero, suc, ◌+◌, Bool, true, false, cond, not, ◌&&◌, ◌||◌, List, [], ◌∷◌, eqb, leb, ltb, length, Option, Some, None}
use Rattle.words.specs.Sum.{first_where}
use Rattle.words.specs.Word.{distance, indicator}
use Rattle.profiles.specs.declared.Profile.{Profile}
use Rattle.tables.specs.Tables.{Slot, held}
use Rattle.rule.specs.Reading.{Outcome, accepted, refused}
use Rattle.rule.specs.Decoding.{decode_of}
use Rattle.load.specs.Load.{block_from, sent_from}
use Rattle.load.specs.Records.{state_at}
use Rattle.streets.specs.declared.Plan.{Plan}
use Rattle.streets.specs.declared.meters.Due.{Due}

-- nobody, or a meter at a try
abbrev pub Sender : Type 0
Sender = Option Due

abbrev pub Nobody : Sender
Nobody = None

abbrev pub Meter : ℕ → ℕ → Sender
Meter i k = Some (record { meter = i; turn = k })

-- "its answer: right, another codeword, or the refusal"
pub data Answered : Type 0 where
  right : Answered
  other : Answered
  refusal : ℕ → Answered

abbrev pub is_right : Answered → Bool
is_right right = true
is_right other = false
is_right (refusal e) = false

abbrev pub is_other : Answered → Bool
is_other right = false
is_other other = true
is_other (refusal e) = false

abbrev pub is_refused : Answered → Bool
is_refused right = false
is_refused other = false
is_refused (refusal e) = true

-- "Each step shows the meter, its try (0 in the first turn) and its answer"
pub record Step : Type 0 where
  pub meter : ℕ
  pub try : ℕ
  pub answer : Answered

-- ---- the steps so far, the newest first

-- one of them passes the test
unfoldable pub some_step : (Step → Bool) → List Step → Bool
some_step f [] = false
some_step f (s ∷ l) = f s || some_step f l

-- so many of them do
unfoldable pub count_steps : (Step → Bool) → List Step → ℕ
count_steps f [] = 0
count_steps f (s ∷ l) = indicator (f s) + count_steps f l

-- a step of meter i at the try k
abbrev pub is_at : ℕ → ℕ → Step → Bool
is_at k i s = eqb s.try k && eqb s.meter i

abbrev pub sent_at : List Step → ℕ → ℕ → Bool
sent_at l k i = some_step (is_at k i) l

abbrev pub refused_at : List Step → ℕ → ℕ → Bool
refused_at l k i = some_step (λ s. is_at k i s && is_refused s.answer) l

-- ---- who sends

-- "Up to 256 meters send in turn"; "In later turns only the meters refused in the turn before send": whether meter i sends in turn k
unfoldable pub sends_in : List Step → ℕ → ℕ → Bool
sends_in l zero i = true
sends_in l (suc k) i = refused_at l k i

-- and has not sent in it yet
abbrev pub waits_in : List Step → ℕ → ℕ → Bool
waits_in l k i = sends_in l k i && not (sent_at l k i)

module _ (plan : Plan) (l : List Step) where
  -- "by number from 0": the first meter that waits in turn k, the number of meters where none does
  unfoldable pub meter_in : ℕ → ℕ
  meter_in k = first_where plan.meters (waits_in l k)

  -- the first turn in which one waits: the turns are 0 and "up to a retry limit of 0 to 15 such turns"
  unfoldable pub turn_now : ℕ
  turn_now = first_where (suc plan.retries) (λ k. ltb (meter_in k) plan.meters)

  -- who sends next, with its try
  unfoldable pub sender_after : Sender
  sender_after = cond (leb turn_now plan.retries) (Meter (meter_in turn_now) turn_now) Nobody

-- ---- blocks and their answers

-- accepted right where it is the codeword sent
abbrev pub judged : ℕ → List ℕ → Outcome → Answered
judged m sent (accepted d k l) = cond (eqb (distance m sent d) 0) right other
judged m sent (refused e k l) = refusal e

-- the block drawn from the state x with so many wrong places asked, and its answer under a profile
module _ (p : Profile) (wrong x : ℕ) where
  abbrev pub block_of : List ℕ
  block_of = block_from p.m p.r wrong x

  unfoldable pub answer_to : Answered
  answer_to = judged p.m (sent_from p.m p.r x) (decode_of p.m p.r p.rounds p.leaves block_of)

-- ---- the list of steps of a street from its start

module _ (slot : Slot) (plan : Plan) (start : ℕ) where
  -- "each block the next of one load of request 9": the state that the block after the steps l is drawn from
  abbrev pub load_at : List Step → ℕ
  load_at l = state_at slot plan.wrong start (length l)

  -- with nobody left to send, nothing is added
  unfoldable pub with_step : List Step → Sender → List Step
  with_step l None = l
  with_step l (Some v) = record { meter = v.meter; try = v.turn; answer = answer_to (held slot) plan.wrong (load_at l) } ∷ l

  -- after n calls
  unfoldable pub steps_after : ℕ → List Step
  steps_after zero = []
  steps_after (suc n) = with_step (steps_after n) (sender_after plan (steps_after n))

-- ---- "blocks sent are those accepted right, accepted as another codeword, and refused; each of the four is defined from the list of steps"

abbrev pub sent_in : List Step → ℕ
sent_in l = length l

abbrev pub right_in : List Step → ℕ
right_in l = count_steps (λ s. is_right s.answer) l

abbrev pub other_in : List Step → ℕ
other_in l = count_steps (λ s. is_other s.answer) l

abbrev pub refused_in : List Step → ℕ
refused_in l = count_steps (λ s. is_refused s.answer) l
