-- A level's byte against document 01's signed level: it is written and read as the level's two's complement, as the
-- logic itself has it for the bits of a signed byte (`of_z w8`, `to_z w8`). Assumes nothing.
use Rattle.std.specs.Prelude.{Option, Some, None}
use mathlib.Core.Path.{◌≡◌, refl, sym, ap}
use mathlib.Core.Logic.{◌↔◌}
use mathlib.Core.Bool.{false, ◌&&◌, true≢false}
use Prim.Native.Nat.{ℕ, suc, ◌+◌, ◌-◌, ◌<◌}
use native.Mathlib.Decide.{dec_lt}
use native.Mathlib.Omega.{arith}
use lib.IntN.{pos, negsuc}
use lib.Signed.{le_z}
use mir.Syntax.{w8}
use mir.Val.{to_z, of_z}
use borrow.Author.Tests.{lt-ltb, le-ltb, le-leb, lt-leb}
use Rattle.coordinate.specs.Axis.{level}
use Rattle.queue.specs.Code.{level_byte}
use Rattle.queue.specs.Decode.{level_of}

-- writing
pub byte_of_level : (rank : ℕ) → rank < 64 → level_byte rank ≡ of_z w8 (level rank)
byte_of_level rank h = elim (dec_lt rank 48) [
  | yes k ↦ rw (lt-ltb rank 48 k) (omega arith)
  | no k ↦ rw (le-ltb rank 48 (omega arith))
]

-- reading: the rank that was read
abbrev rank_in : Option ℕ → ℕ
rank_in (Some r) = r
rank_in None = 0

same_rank : (a r : ℕ) → Some a ≡ Some r → r ≡ a
same_rank a r e = sym (ap rank_in e)

no_rank : {P : Type 0} (r : ℕ) → None ≡ Some r → P
no_rank r e = absurd (let z : ◌≡◌ {A = ℕ} 0 1 = cc in omega arith)

pub level_of_byte : (byte r : ℕ) → byte < 256 → level_of byte ≡ Some r → level r ≡ to_z w8 byte
level_of_byte byte r h e = elim (dec_lt byte 16) [
  | yes k ↦ (let e' : Some (byte + 48) ≡ Some r = rw (le-leb byte 15 (omega arith)) at e in
      let f : r ≡ byte + 48 = same_rank (byte + 48) r e' in
      rw (f, lt-ltb byte 128 (omega arith), le-ltb (byte + 48) 48 (omega arith)) (ap pos (omega arith)))
  | no k ↦ elim (dec_lt byte 224) [
    | yes j ↦ (let e' : None ≡ Some r = rw (lt-leb byte 15 (omega arith), lt-leb 224 byte j) at e in
        no_rank r e')
    | no j ↦ (let e' : Some (byte - 208) ≡ Some r =
        rw (lt-leb byte 15 (omega arith), le-leb 224 byte (omega arith)) at e in
        let f : r ≡ byte - 208 = same_rank (byte - 208) r e' in
        rw (f, le-ltb byte 128 (omega arith), lt-ltb (byte - 208) 48 (omega arith)) (ap negsuc (omega arith)))
  ]
]

-- and which bytes are none of a level from -32 to 15
pub no_level_of_byte : (byte : ℕ) → byte < 256
    → (level_of byte ≡ None) ↔ (le_z (negsuc 31) (to_z w8 byte) && le_z (to_z w8 byte) (pos 15) ≡ false)
no_level_of_byte byte h = elim (dec_lt byte 128) [
  | yes k ↦ rw (lt-ltb byte 128 k) (elim (dec_lt byte 16) [
    | yes j ↦ rw (le-leb byte 15 (omega arith)) (λ e. no_rank _ (sym e), λ e. absurd (true≢false e))
    | no j ↦ rw (lt-leb byte 15 (omega arith), lt-leb 224 byte (omega arith)) (λ e. refl, λ e. refl)
  ])
  | no k ↦ rw (le-ltb byte 128 (omega arith), lt-leb byte 15 (omega arith)) (elim (dec_lt byte 224) [
    | yes j ↦ rw (lt-leb 224 byte j, lt-leb (256 - suc byte) 31 (omega arith)) (λ e. refl, λ e. refl)
    | no j ↦ rw (le-leb 224 byte (omega arith), le-leb (256 - suc byte) 31 (omega arith))
        (λ e. no_rank _ (sym e), λ e. absurd (true≢false e))
  ])
]
