-- Each turn reads the last of the characters that are left; one that is no bit ends the reading.
use Rattle.std.proofs.Common.{◌≡◌, ◌≤◌, length, ap, sym, subst, ◌∙◌, arith}
use Rattle.code_record.specs.Record.{row_room}
use Rattle.syndrome_reader.proofs.ReadMask.{many-generators, other-count, same_count}
use Rattle.syndrome_reader.proofs.ReadMask.{Behind, behind-none, behind-all, behind-more, mask-room, no-bit, bit-small}
use Rattle.syndrome_reader.proofs.read_syndrome.Goals as goal

pub returns-then-r-gt-ROW_ROOM : goal.returns-then-r-gt-ROW_ROOM
returns-then-r-gt-ROW_ROOM c = sym (many-generators c.args.r c.args.characters.now c.if-r-gt-ROW_ROOM.true)

pub returns-then-characters-r : goal.returns-then-characters-r
returns-then-characters-r c =
    sym
    (other-count c.args.r c.args.characters.now c.if-r-gt-ROW_ROOM.false
    (λ e. omega (arith, e, c.if-characters-r.true)))

pub loop-character-init : goal.loop-character-init
loop-character-init c =
    let all : c.into_iter-character-iterator.result.iter.rest.now ≡ c.args.characters.now =
    ap (λ i. i.iter.rest.now) c.into_iter-character-iterator.ensures.into_iter_gives
    ∙ ap (λ i. i.rest.now) c.rev-character-items.ensures.source ∙ c.iter.ensures.rest in
    subst (λ rest. Behind c.args.characters.now rest 0) (sym all) (behind-none c.args.characters.now)

pub returns-in_err-mask : goal.returns-in_err-mask
returns-in_err-mask c =
    c.from_residual.ensures
    ∙ no-bit c.loop-character.invariant _ _ c.in-Some.ensures.steps c.in_err-mask.ensures
    ∙ sym
    (same_count c.args.r c.args.characters.now c.if-r-gt-ROW_ROOM.false (omega (arith, c.if-characters-r.false)))

pub overflow_mul-mask : goal.overflow_mul-mask
overflow_mul-mask c =
    let few : length c.args.characters.now ≤ row_room =
    omega (arith, c.if-r-gt-ROW_ROOM.false, c.if-characters-r.false) in
    record { fits = omega (arith, mask-room c.loop-character.invariant _ _ c.in-Some.ensures.steps few) }

pub overflow_add-mask : goal.overflow_add-mask
overflow_add-mask c =
    let few : length c.args.characters.now ≤ row_room =
    omega (arith, c.if-r-gt-ROW_ROOM.false, c.if-characters-r.false) in
    record {
      fits =
          omega (
            arith,
            mask-room c.loop-character.invariant _ _ c.in-Some.ensures.steps few,
            bit-small _ c.in_ok-mask.field-0 c.in_ok-mask.ensures,
          );
    }

pub loop-character-preserved : goal.loop-character-preserved
loop-character-preserved c =
    behind-more c.loop-character.invariant _ _ c.in-Some.ensures.steps c.in_ok-mask.field-0 c.in_ok-mask.ensures

pub returns : goal.returns
returns c =
    sym (behind-all c.loop-character.invariant c.in-None.ensures.steps.0)
    ∙ sym
    (same_count c.args.r c.args.characters.now c.if-r-gt-ROW_ROOM.false (omega (arith, c.if-characters-r.false)))
