-- Laws of text: texts put one after the other, decimal numbers, and how long each is. Assumes nothing.
use Rattle.std.specs.Prelude.{ℕ, zero, suc, ◌+◌, ◌-◌, ◌*◌, ◌/◌, ◌%◌, ◌^◌, ◌≤◌, ◌<◌, ◌≡◌, refl, cond, List, [], ◌∷◌, ◌++◌, ltb, length, get_or, take, drop, set}
use Rattle.std.proofs.Common.{mod-eq_of_lt, add-one, arith, sym, ap, ◌∙◌, subst, append_assoc, append-nil, length-append, length-drop, length-take, drop-drop, drop-set-lt, ext_get_or, get_or-drop, get_or-take, get_or-append-add, length-take-le, take-suc-set, lt-ltb, le-ltb}
use Rattle.std.proofs.Math.Decide.{dec_lt}
use Rattle.std.proofs.Math.ListN.{get_or-append}
use Rattle.words.specs.Sum.{tabulate}
use Rattle.words.specs.SumLaws.{length-tabulate, get_or-tabulate}
use Rattle.words.specs.Written.{Written}
use Rattle.text.specs.Numbers.{ten_digits, digits_of, decimal, hex_of}
use Rattle.text.specs.Texts.{Appended, Added}
use Rattle.text.specs.declared.Writer.{Writer}

-- ---- texts one after the other

-- one byte
pub one_byte : (s : List ℕ) (at b : ℕ) → at < length s → Appended s at (b ∷ []) (at + 1) (set s at b)
one_byte s at b h = record { ends = refl; holds = rw add-one (take-suc-set s at b h); past = drop-set-lt (at + 1) s at b (omega arith) }

-- a run of bytes that a loop wrote
pub a_run : {s s' : List ℕ} {at n : ℕ} {f : ℕ → ℕ} → Written 0 at n f s s' → at + n ≤ length s → Appended s at (tabulate n f) (at + n) s'
a_run {s} {s'} {at} {n} {f} w h = record {
  ends = ap (λ (k : ℕ). at + k) (sym (length-tabulate n f));
  holds = ext_get_or 0 (take (at + n) s') (take at s ++ tabulate n f) (long ∙ sym long') (λ i l. go i (omega (arith, long)));
  past = ext_get_or 0 (drop (at + n) s') (drop (at + n) s) (omega (arith, length-drop (at + n) s', length-drop (at + n) s, w.long))
      (λ i l. get_or-drop (at + n) s' i 0 ∙ w.above (at + n + i) (omega arith) ∙ sym (get_or-drop (at + n) s i 0));
}
  where
    front : length (take at s) ≡ at
    front = length-take-le at s (omega arith)

    long : length (take (at + n) s') ≡ at + n
    long = length-take-le (at + n) s' (omega (arith, w.long))

    long' : length (take at s ++ tabulate n f) ≡ at + n
    long' = length-append (take at s) (tabulate n f) ∙ omega (arith, front, length-tabulate n f)

    within : (j : ℕ) → j < n → get_or s' (at + j) 0 ≡ get_or (take at s ++ tabulate n f) (at + j) 0
    within j l =
        w.within j l
        ∙ sym (ap (λ (k : ℕ). get_or (take at s ++ tabulate n f) (k + j) 0) (sym front) ∙ get_or-append-add (take at s) (tabulate n f) j 0 ∙ get_or-tabulate n f 0 j l)

    go : (i : ℕ) → i < at + n → get_or (take (at + n) s') i 0 ≡ get_or (take at s ++ tabulate n f) i 0
    go i l = get_or-take (at + n) s' i 0 l ∙ elim (dec_lt i at) [
      | yes b ↦ w.below i b ∙ sym (get_or-append (take at s) (tabulate n f) 0 i (omega (arith, front)) ∙ get_or-take at s i 0 b)
      | no k ↦ subst (λ (j : ℕ). get_or s' j 0 ≡ get_or (take at s ++ tabulate n f) j 0) (omega arith) (within (i - at) (omega arith))
    ]

-- what follows a place follows a later one too
pub past_further : (s s' : List ℕ) (b k c : ℕ) → c ≡ b + k → drop b s' ≡ drop b s → drop c s' ≡ drop c s
past_further s s' b k c e h =
    ap (λ (i : ℕ). drop i s') e ∙ sym (drop-drop k b s') ∙ ap (λ (l : List ℕ). drop k l) h ∙ drop-drop k b s ∙ ap (λ (i : ℕ). drop i s) (sym e)

pub then_also : {s s' s'' : List ℕ} {a b c : ℕ} {t u : List ℕ} → Appended s a t b s' → Appended s' b u c s'' → Appended s a (t ++ u) c s''
then_also {s} {s'} {a = a} {b} {c} {t} {u} x y = record {
  ends = omega (arith, length-append t u, x.ends, y.ends);
  holds = y.holds ∙ ap (λ (l : List ℕ). l ++ u) x.holds ∙ append_assoc (take a s) t u;
  past = y.past ∙ past_further s s' b (length u) c y.ends x.past;
}

-- a text put at a place of a buffer ends within it
pub appended_within : {before after text : List ℕ} {at end : ℕ} → Appended before at text end after → at ≤ length before → end ≤ length after
appended_within {before} {after} {text} {at} {end} a h =
    omega (arith, ap length a.holds, length-take end after, length-append (take at before) text, length-take-le at before h, a.ends)

-- nothing put
pub added_none : (w : Writer) → Added [] w w
added_none w = record { appended = record { ends = omega arith; holds = sym (append-nil (take w.at w.out.now)); past = refl }; long = refl; same = refl }

pub added_also : {w w' w'' : Writer} {t u : List ℕ} → Added t w w' → Added u w' w'' → Added (t ++ u) w w''
added_also x y = record { appended = then_also x.appended y.appended; long = y.long ∙ x.long; same = y.same ∙ x.same }

-- ---- decimal numbers

-- turns beyond the number change nothing
digits_turns : (k k' n : ℕ) → n < k → n < k' → digits_of k n ≡ digits_of k' n
unfolding digits_of
digits_turns zero k' n h h' = absurd (omega arith)
digits_turns (suc k) zero n h h' = absurd (omega arith)
digits_turns (suc k) (suc k') n h h' = elim (dec_lt n 10) [
  | yes l ↦ rw (lt-ltb n 10 l)
  | no m ↦ ap (λ (t : List ℕ). cond (ltb n 10) [] t ++ ((48 + n % 10) ∷ [])) (digits_turns k k' (n / 10) (omega arith) (omega arith))
]

pub decimal_small : (n : ℕ) → n < 10 → decimal n ≡ (48 + n) ∷ []
unfolding decimal digits_of
decimal_small n h = rw (lt-ltb n 10 h, mod-eq_of_lt h)

pub decimal_more : (n : ℕ) → 10 ≤ n → decimal n ≡ decimal (n / 10) ++ ((48 + n % 10) ∷ [])
unfolding decimal digits_of
decimal_more n h = rw (le-ltb n 10 h, digits_turns n (suc (n / 10)) (n / 10) (omega arith) (omega arith))

-- the digits before the last
abbrev pub digits_before : ℕ → List ℕ
digits_before n = cond (ltb n 10) [] (decimal (n / 10))

pub before_small : (n : ℕ) → n < 10 → digits_before n ≡ []
before_small n h = rw (lt-ltb n 10 h)

pub before_more : (n : ℕ) → 10 ≤ n → digits_before n ≡ decimal (n / 10)
before_more n h = rw (le-ltb n 10 h)

pub decimal_last : (n : ℕ) → decimal n ≡ digits_before n ++ ((48 + n % 10) ∷ [])
decimal_last n = elim (dec_lt n 10) [
  | yes l ↦ rw (decimal_small n l, before_small n l, mod-eq_of_lt l)
  | no m ↦ rw (before_more n (omega arith)) (decimal_more n (omega arith))
]

pub last_length : (n : ℕ) → length (decimal n) ≡ length (digits_before n) + 1
last_length n = ap length (decimal_last n) ∙ length-append (digits_before n) ((48 + n % 10) ∷ [])

-- ---- how long each text is

pub ten_length : (n : ℕ) → length (ten_digits n) ≡ 10
unfolding ten_digits
ten_length n = length-tabulate 10 _

pub hex_length : (message : List ℕ) → length (hex_of message) ≡ (length message + 7) / 8 * 2
unfolding hex_of
hex_length message = length-tabulate _ _

pub decimal-length : (k n : ℕ) → n < 10 ^ suc k → length (decimal n) ≤ suc k
decimal-length zero n h = rw (decimal_small n (omega arith)) (omega arith)
decimal-length (suc k) n h = elim (dec_lt n 10) [
  | yes l ↦ rw (decimal_small n l) (omega arith)
  | no m ↦ rw (decimal_more n (omega arith)) (omega (arith, length-append (decimal (n / 10)) ((48 + n % 10) ∷ []), decimal-length k (n / 10) (omega arith)))
]
