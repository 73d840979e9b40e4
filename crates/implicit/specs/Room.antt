-- A ring that is enough for so many steps: added, beside the least ring. A step frees the code of the block that it takes and queues those of its children,
-- four at most; so what one step adds to the bytes used is bounded by the number of parameters in use.
--
--   with u used parameters a code has   2 + 2 + 2 u + 1 bytes at least: both coordinates, FF FF for each parameter, the direction
--                                       8 + 8 + 16 u + 1 at most
--   behind a sibling                    2 + 2 + 2 u + 1 at most where x and y were cut, four siblings; 14 more where a parameter was cut, three siblings:
--                                       siblings' indices differ in the last digit alone, and they have the same parameters but the one that was cut
use Rattle.std.specs.Prelude.{◌&&◌, cond, ℕ, ◌+◌, ◌*◌, eqb, length, Result, Ok, Err}
use Rattle.refusal.specs.declared.Refusal.TheVariants as R
use Rattle.refusal.specs.declared.Refusal.{Refusal}
use Rattle.queue.specs.Directions.{used_of, parameters}
use Rattle.decide.specs.declared.Chosen.{Chosen}
use Rattle.decide.specs.Damage.{legal_side}
use Rattle.implicit.specs.declared.state.Ranges.{Ranges}
use Rattle.implicit.specs.Record.{refused_unless}
use Rattle.implicit.specs.Setup.{ranges_legal, first_bytes}

-- how many parameters a set uses
unfoldable pub parameter_count : ℕ → ℕ
parameter_count set = length (used_of set parameters)

-- what a step adds to the bytes used, at most: 27 without parameters; 68, 86, 104 or 122 with one to four
unfoldable pub step_growth : ℕ → ℕ
step_growth set = cond (eqb (parameter_count set) 0) 27 (50 + 18 * parameter_count set)

-- the bytes that are enough for n steps: what the setup needs, and n times what a step adds
unfoldable pub enough_bytes : Chosen → Ranges → ℕ → ℕ
enough_bytes p r n = length (first_bytes p r) + n * step_growth p.set

-- THE RING THAT IS ENOUGH FOR n STEPS, asked before there are a ring and cells: of a setup's refusals 1 and 3 are left
unfoldable pub enough_ring : Chosen → Ranges → ℕ → Result ℕ Refusal
enough_ring p r n =
    refused_unless (Err R.Side) (legal_side p.width && legal_side p.height)
    (refused_unless (Err R.Parameter) (ranges_legal p.set r) (Ok (enough_bytes p r n)))
