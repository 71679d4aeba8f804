use Rattle.std.proofs.Common.{◌≡◌, ◌++◌, [], length, ap, ◌∙◌, arith, length-append, List, ℕ, take, drop}
use Rattle.usbip_wire.specs.Submit.{submit_bytes, unused}
use Rattle.host_urbs.proofs.Patched.{length_set, put_back, wide_set}
use Rattle.host_urbs.proofs.Sizes.{submit_size}
use Rattle.host_urbs.proofs.outbox.put_head.Goals as goal

pub slice_bounds-copy_from_slice-end : goal.slice_bounds-copy_from_slice-end
slice_bounds-copy_from_slice-end c =
    let size = submit_size (record c.args.head { length = 0 }) [] c.put_submit.ensures.spelled.setup in
    let whole : length c.put_submit.new.out.items ≡ length (c.args.out.now.items ++ submit_bytes (record c.args.head { length = 0 }) unused []) = ap (λ (l : List ℕ). length l) c.put_submit.ensures.written in
    let same : length c.as_mut_slice.result.now ≡ length c.put_submit.new.out.items = ap (λ (l : List ℕ). length l) c.as_mut_slice.ensures.value in
    omega (arith, size, whole, same, length-append c.args.out.now.items (submit_bytes (record c.args.head { length = 0 }) unused []), c.len-at.ensures.value)

pub returns : goal.returns
returns c =
    let size = submit_size (record c.args.head { length = 0 }) [] c.put_submit.ensures.spelled.setup in
    let set = c.to_be_bytes-size.ensures in
    record {
      written =
          put_back c.args.out.now.items (submit_bytes (record c.args.head { length = 0 }) unused []) c.to_be_bytes-size.result c.copy_from_slice.new.self c.put_submit.new.out.items c.as_mut_slice.result.now
          c.len-at.result _ c.put_submit.ensures.written c.as_mut_slice.ensures.value c.len-at.ensures.value size (ap (λ (l : List ℕ). length l) set) c.copy_from_slice.ensures.after (omega arith)
          ∙ (ap (λ (l : List ℕ). c.args.out.now.items ++ (take 24 (submit_bytes (record c.args.head { length = 0 }) unused []) ++ (l ++ drop 28 (submit_bytes (record c.args.head { length = 0 }) unused [])))) set
          ∙ ap (λ (l : List ℕ). c.args.out.now.items ++ l) (length_set c.args.head));
      spare = c.put_submit.ensures.spare;
      setup = c.put_submit.ensures.spelled.setup;
      wide = wide_set c.args.head c.put_submit.ensures.spelled.rest (omega (arith, c.requires.short)) c.put_submit.ensures.spelled.wide;
    }
