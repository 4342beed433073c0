use Rattle.std.proofs.Common.{◌≡◌, ◌*◌, ◌^◌, ◌≤◌, length}
use Rattle.std.specs.Int.RustNames.{unsigned_abs}
use Rattle.rx_laws.specs.Words.{of_numbers}
use Rattle.rx_points.proofs.Chunks.{chunked}
use Rattle.rx_points.proofs.windows.window_totals.Given as goal

abbrev pub invariant-loop-chunk : goal.invariant-loop-chunk
invariant-loop-chunk l = record {
  first : l.first ≡ chunked l.chunk (length l.digits) (of_numbers l.digits) (of_numbers l.numbers) 0;
  second : l.second ≡ chunked l.chunk (length l.digits) (of_numbers l.digits) (of_numbers l.numbers) l.stride;
  third : l.third ≡ chunked l.chunk (length l.digits) (of_numbers l.digits) (of_numbers l.numbers) (2 * l.stride);
  fourth : l.fourth ≡ chunked l.chunk (length l.digits) (of_numbers l.digits) (of_numbers l.numbers) (3 * l.stride);
  first_size : unsigned_abs l.first ≤ l.chunk * 2 ^ 31;
  second_size : unsigned_abs l.second ≤ l.chunk * 2 ^ 31;
  third_size : unsigned_abs l.third ≤ l.chunk * 2 ^ 31;
  fourth_size : unsigned_abs l.fourth ≤ l.chunk * 2 ^ 31;
}
