mod Beginning
mod Counting
mod LastToken
mod RoundsMore
