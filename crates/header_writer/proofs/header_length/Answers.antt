-- The length of the four lines is that of their digits, and three more in each. No count of digits is large, so that
-- every sum fits.
use Rattle.std.proofs.Common.{arith}
use Rattle.number_writer.proofs.Numbers.{length-decimal-le}
use Rattle.header_writer.proofs.Header.{length-header_text}
use Rattle.header_writer.proofs.header_length.Goals as goal

pub overflow_add-result : goal.overflow_add-result
overflow_add-result c = record { fits = omega (arith, length-decimal-le c.args.n, length-decimal-le c.args.k) }

pub overflow_add-result-2 : goal.overflow_add-result-2
overflow_add-result-2 c =
    record {
      fits = omega (arith, length-decimal-le c.args.n, length-decimal-le c.args.k, length-decimal-le c.args.d);
    }

pub overflow_add-result-3 : goal.overflow_add-result-3
overflow_add-result-3 c =
    let a = c.args in
    record {
      fits = omega (
        arith,
        length-decimal-le a.n,
        length-decimal-le a.k,
        length-decimal-le a.d,
        length-decimal-le a.t,
      );
    }

pub overflow_add-result-4 : goal.overflow_add-result-4
overflow_add-result-4 c =
    let a = c.args in
    record {
      fits = omega (
        arith,
        length-decimal-le a.n,
        length-decimal-le a.k,
        length-decimal-le a.d,
        length-decimal-le a.t,
      );
    }

pub returns : goal.returns
returns c = omega (arith, length-header_text c.args.n c.args.k c.args.d c.args.t)
