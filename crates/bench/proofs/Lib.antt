mod Origin
