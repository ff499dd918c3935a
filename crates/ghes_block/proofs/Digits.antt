-- The digits of a number are the bytes that `byteorder` writes.
use Rattle.std.proofs.Common.{◌≡◌, ℕ, zero, suc, ◌/◌, ◌%◌, ◌^◌, ◌∷◌, refl, sym, ◌∙◌, ap}
use Rattle.std.proofs.Math.Nat.{div-div-eq-div-mul, div-one, pow-suc}
use Rattle.std.specs.Int.{byte_at, bytes_low_first}
use Rattle.byteorder.specs.Endian.{little_bytes}
use Rattle.reri_fields.specs.Block.{digits}

-- a byte of a number, by its place
byte_there : (place number : ℕ) → byte_at place number ≡ number / 256 ^ place % 256
byte_there zero number = ap (λ n. n % 256) (sym (div-one number))
byte_there (suc place) number = refl

digits_from : (count place number : ℕ) → bytes_low_first place count number ≡ digits count (number / 256 ^ place)
unfolding digits
digits_from zero place number = refl
digits_from (suc count) place number =
    let next : number / 256 ^ suc place ≡ number / 256 ^ place / 256 =
    ap (λ n. number / n) (pow-suc 256 place) ∙ sym (div-div-eq-div-mul number (256 ^ place) 256) in
    ap (λ byte. byte ∷ bytes_low_first (suc place) count number) (byte_there place number)
    ∙ ap (λ rest. number / 256 ^ place % 256 ∷ rest) (digits_from count (suc place) number
    ∙ ap (λ n. digits count n) next)

pub digits_are : (count number : ℕ) → digits count number ≡ little_bytes count number
digits_are count number = ap (λ n. digits count n) (sym (div-one number)) ∙ sym (digits_from count 0 number)
